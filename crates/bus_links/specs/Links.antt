-- The links of Linux between the devices of a tree (Linux driver-api, "Device links"): which device each device's properties make
-- it wait for, and the bus above it (Documentation/devicetree/usage-model).
use Rattle.std.specs.Prelude.{ℕ, zero, suc, ◌+◌, Bool, true, false, not, ◌&&◌, ◌||◌, ◌==◌, nat_lt, codes, if◌then◌else◌, List, [], ◌∷◌, ◌++◌, map, slice_index, slice_get, Option, Some, None, option_and_then}
use Rattle.std.specs.Option.{option_map_or, option_to_list}
use Rattle.std.specs.List.{list_any, slice_index_or}
use Rattle.dt_tree.specs.NodeData.{NodeData}
use Rattle.bus_plan.specs.PlanPaths.{is_among}
use Rattle.bus_drivers.specs.Nodes.{TreeDevice, is_compatible, tree_devices}
use Rattle.bus_drivers.specs.TreePlan.{compatible_strings, strings}
use Rattle.bus_links.specs.LinkDrivers.{LinkDriversData}
use Rattle.bus_links.specs.Bindings.LinkNodes.{LinkNode, node_at, is_named, is_power, tree_nodes, device_places}
use Rattle.bus_links.specs.Bindings.Interrupts.{bytes_at, most_steps}
use Rattle.bus_links.specs.Bindings.Endpoints.{found_of}
use Rattle.bus_links.specs.Bindings.Mentions.{MentionData, FaultData}

-- the consumer waits for the supplier, by this entry of the consumer's property, or because that is the bus above it; the entry may
-- name a part of the supplier, a node below it that is no device
pub record LinkData : Type 0 where
  pub consumer : ℕ
  pub supplier : ℕ
  pub property : List ℕ
  pub entry : ℕ
  pub is_bus : Bool
  pub is_part : Bool

-- an entry that is malformed or leads nowhere
pub record WarningData : Type 0 where
  pub device : ℕ
  pub property : List ℕ
  pub entry : ℕ

-- ---- by strings
-- one of a device's `compatible` strings is among these
abbrev pub has_string : List (List ℕ) → TreeDevice → Bool
has_string strings d = list_any (λ string. is_among string strings) (compatible_strings d)

-- for each device, whether one of its strings is among these
abbrev pub flags : List (List ℕ) → List TreeDevice → List Bool
flags strings devices = map (has_string strings) devices

abbrev pub flag_at : List Bool → ℕ → Bool
flag_at fs place = slice_index_or fs place false

-- the place of the node of the device at this place
abbrev pub node_of : List ℕ → ℕ → ℕ
node_of places own = slice_index places own

-- ---- of which nodes devices are made
-- (drivers/of/platform.c of Linux 6.1: `of_platform_bus_create`, `of_platform_default_populate_init`)
-- never of these (`of_skipped_node_table`), of these wherever they stand (`reserved_mem_matches`), and of these below /chosen
abbrev pub skipped : List (List ℕ)
skipped = codes "operating-points-v2" ∷ []

abbrev pub reserved_memory : List (List ℕ)
reserved_memory =
    codes "phram" ∷ codes "qcom,rmtfs-mem" ∷ codes "qcom,cmd-db" ∷ codes "qcom,smem" ∷ codes "ramoops" ∷ codes "nvmem-rmem"
    ∷ codes "google,open-dice" ∷ []

abbrev pub framebuffers : List (List ℕ)
framebuffers = codes "simple-framebuffer" ∷ []

-- the node at this place has one of these strings
abbrev pub is_one_of : List (List ℕ) → List LinkNode → ℕ → Bool
is_one_of these nodes place = list_any (λ string. is_among string these) (strings (bytes_at nodes place (codes "compatible")))

-- it stands below the root, and has this name
abbrev pub is_top : List LinkNode → ℕ → List ℕ → Bool
is_top nodes place name = (node_at nodes place).above == 0 && is_named nodes place name

-- devices are made below the node at this place as far as that goes: below a device by Linux where it is a bus, else by its driver,
-- which an early device hasn't; below another node by the driver of the nearest device above, and below /firmware
abbrev pub lets_below : List LinkNode → List Bool → List Bool → ℕ → Bool
lets_below nodes early buses place =
    if is_compatible (node_at nodes place).properties
    then option_map_or (λ d. not (flag_at early d) || flag_at buses d) (node_at nodes place).device true
    else option_map_or (λ d. not (flag_at buses d)) (node_at nodes place).device (is_top nodes place (codes "firmware"))

-- and so on up to the root, in at most so many steps
abbrev pub reached_within : List LinkNode → List Bool → List Bool → ℕ → ℕ → Bool
reached_within nodes early buses zero place = false
reached_within nodes early buses (suc left) place =
    place == 0 || (lets_below nodes early buses place && reached_within nodes early buses left (node_at nodes place).above)

abbrev pub is_placed : List LinkNode → List Bool → List Bool → ℕ → Bool
is_placed nodes early buses place =
    is_one_of reserved_memory nodes place
    || ((is_one_of framebuffers nodes place && is_top nodes (node_at nodes place).above (codes "chosen"))
    || reached_within nodes early buses most_steps (node_at nodes place).above)

-- a device is made of the node at this place; early ones are set up without, and PowerPC's machines make their own
abbrev pub is_made : List LinkNode → List Bool → List Bool → ℕ → ℕ → Bool
is_made nodes early buses own place =
    flag_at early own || (is_power nodes || (not (is_one_of skipped nodes place) && is_placed nodes early buses place))

-- these devices, the first of which has this place: one that isn't made is not available
abbrev pub device_if : Bool → TreeDevice → TreeDevice
device_if made d = record { path = d.path; available = made && d.available; properties = d.properties }

abbrev pub made_from : List LinkNode → List Bool → List Bool → List ℕ → ℕ → List TreeDevice → List TreeDevice
made_from nodes early buses places own [] = []
made_from nodes early buses places own (d ∷ ds) =
    device_if (is_made nodes early buses own (node_of places own)) d ∷ made_from nodes early buses places (own + 1) ds

-- the devices of a tree as Linux makes them, by its root
abbrev pub linux_devices : NodeData → LinkDriversData → List TreeDevice
linux_devices root set =
    made_from (tree_nodes root) (flags set.early (tree_devices root)) (flags set.buses (tree_devices root)) (device_places (tree_nodes root)) 0 (tree_devices root)

-- ---- by a property
-- the device at a place, if it may be used and isn't the consumer
abbrev pub supplier_at : List TreeDevice → ℕ → ℕ → Option ℕ
supplier_at devices own place =
    if option_map_or (λ d. d.available) (slice_get devices place) false && not (place == own) then Some place else None

-- the device that a node makes the consumer wait for: the nearest at or above the node, where it may be used
abbrev pub supplier_of : List LinkNode → List TreeDevice → ℕ → ℕ → Option ℕ
supplier_of nodes devices own node =
    if (node_at nodes node).usable then option_and_then (supplier_at devices own) (node_at nodes node).device else None

-- the links that mentions make
abbrev pub is_part : List LinkNode → ℕ → Bool
is_part nodes place = not (is_compatible (node_at nodes place).properties)

abbrev pub link_by : List LinkNode → ℕ → MentionData → ℕ → LinkData
link_by nodes own m supplier = record {
  consumer = own;
  supplier = supplier;
  property = m.property;
  entry = m.entry;
  is_bus = false;
  is_part = is_part nodes m.node;
}

abbrev pub links_by : List LinkNode → List TreeDevice → ℕ → List MentionData → List LinkData
links_by nodes devices own [] = []
links_by nodes devices own (m ∷ ms) =
    map (link_by nodes own m) (option_to_list (supplier_of nodes devices own m.node)) ++ links_by nodes devices own ms

-- ---- the bus above
-- the bus of the device at this place, if its driver makes that one: a bus stands before the devices on it
abbrev pub is_bus_for : List Bool → ℕ → ℕ → Bool
is_bus_for buses own bus = nat_lt bus own && option_map_or not (slice_get buses bus) false

-- the bus above the device at this place and node: the nearest device above, but for buses whose devices are made without a driver
abbrev pub bus_above : List LinkNode → List Bool → ℕ → ℕ → Option ℕ
bus_above nodes buses own node =
    option_and_then (λ bus. if is_bus_for buses own bus then Some bus else None) (node_at nodes (node_at nodes node).above).device

abbrev pub bus_link : ℕ → ℕ → LinkData
bus_link own bus = record { consumer = own; supplier = bus; property = []; entry = 0; is_bus = true; is_part = false }

-- ---- of a device
-- those of the device at this place and node; one that may not be used has none
abbrev pub links_of : List LinkNode → List TreeDevice → List Bool → Bool → TreeDevice → ℕ → ℕ → List LinkData
links_of nodes devices buses strict d own node =
    if d.available
    then links_by nodes devices own (found_of nodes strict own node).mentions ++ map (bus_link own) (option_to_list (bus_above nodes buses own node))
    else []

abbrev pub warned : ℕ → FaultData → WarningData
warned own f = record { device = own; property = f.property; entry = f.entry }

abbrev pub warnings_of : List LinkNode → Bool → TreeDevice → ℕ → ℕ → List WarningData
warnings_of nodes strict d own node = if d.available then map (warned own) (found_of nodes strict own node).faults else []

-- ---- of all devices
-- those of these devices, the first of which has this place
abbrev pub links_from : List LinkNode → List TreeDevice → List Bool → Bool → List ℕ → ℕ → List TreeDevice → List (List LinkData)
links_from nodes devices buses strict places own [] = []
links_from nodes devices buses strict places own (d ∷ ds) =
    links_of nodes devices buses strict d own (node_of places own) ∷ links_from nodes devices buses strict places (own + 1) ds

abbrev pub warnings_from : List LinkNode → Bool → List ℕ → ℕ → List TreeDevice → List WarningData
warnings_from nodes strict places own [] = []
warnings_from nodes strict places own (d ∷ ds) =
    warnings_of nodes strict d own (node_of places own) ++ warnings_from nodes strict places (own + 1) ds

-- the links of each device of a tree, by its root
abbrev pub tree_links : NodeData → LinkDriversData → Bool → List (List LinkData)
tree_links root drivers strict =
    links_from (tree_nodes root) (linux_devices root drivers) (flags drivers.buses (tree_devices root)) strict (device_places (tree_nodes root)) 0 (linux_devices root drivers)

-- ---- parents
-- the device above each of these, of which the first has this place
abbrev pub parents_from : List LinkNode → List Bool → List ℕ → ℕ → List TreeDevice → List (Option ℕ)
parents_from nodes buses places own [] = []
parents_from nodes buses places own (d ∷ ds) = bus_above nodes buses own (node_of places own) ∷ parents_from nodes buses places (own + 1) ds

-- the bus above each device of a tree, by its root
abbrev pub tree_buses : NodeData → LinkDriversData → List (Option ℕ)
tree_buses root drivers =
    parents_from (tree_nodes root) (flags drivers.buses (tree_devices root)) (device_places (tree_nodes root)) 0 (tree_devices root)

-- that of each device of a tree, by its root: the bus above, of whatever strings
abbrev pub tree_parents : NodeData → List (Option ℕ)
tree_parents root =
    parents_from (tree_nodes root) (flags [] (tree_devices root)) (device_places (tree_nodes root)) 0 (tree_devices root)

abbrev pub tree_warnings : NodeData → LinkDriversData → Bool → List WarningData
tree_warnings root drivers strict = warnings_from (tree_nodes root) strict (device_places (tree_nodes root)) 0 (linux_devices root drivers)
