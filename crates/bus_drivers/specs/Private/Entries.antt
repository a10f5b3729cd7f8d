-- What a walk over the tree meets, node by node, reserved nodes left out: the path of the node, the properties of the nodes from
-- the root down to it, and the nearest device at or above it. The laws in `proofs/Entries.antt` tie it to `Nodes`.
use Rattle.std.specs.Prelude.{ℕ, ◌+◌, Bool, false, not, ◌&&◌, ◌==◌, nat_eq, if◌then◌else◌, List, [], ◌∷◌, ◌++◌, map, filter, length, Option, Some, None}
use Rattle.std.specs.Option.{option_map, option_map_or}
use Rattle.std.specs.List.{list_all, find}
use Rattle.dt_tree.specs.declared.property.Property.{Property}
use Rattle.dt_tree.specs.NodeData.{Siblings, none, more, NodeData}
use Rattle.dt_tree.specs.Path.{path_text}
use Rattle.dt_tree.specs.Phandle.{phandle_of}
use Rattle.dt_tree.specs.Private.PhandleWalk.{unreserved}
use Rattle.bus_drivers.specs.Nodes.{is_compatible, is_okay, TreeDevice, Target}

-- the node's own properties are the last of its chain, and its device is named by its place among the devices
pub record Entry : Type 0 where
  pub node_path : List (List ℕ)
  pub chain : List (List Property)
  pub device : Option ℕ

abbrev pub entry : List (List ℕ) → List (List Property) → Option ℕ → Entry
entry node_path chain device = record { node_path = node_path; chain = chain; device = device }

-- how many devices there are among nodes side by side and those below them
abbrev pub device_count : Siblings → ℕ
device_count none = 0
device_count (more n p kids rest) = (if is_compatible p then 1 else 0) + (device_count kids + device_count rest)

-- the device that a node belongs to, where so many devices were met before it and the node above belongs to this one
abbrev pub device_here : List Property → ℕ → Option ℕ → Option ℕ
device_here p met above = if is_compatible p then Some met else above

-- the nodes side by side below a node, each before those below it; so many devices were met before
abbrev pub entries_among : List (List ℕ) → List (List Property) → Option ℕ → ℕ → Siblings → List Entry
entries_among node_path chain above met none = []
entries_among node_path chain above met (more n p kids rest) =
    entry (node_path ++ n ∷ []) (chain ++ p ∷ []) (device_here p met above)
    ∷ (entries_among (node_path ++ n ∷ []) (chain ++ p ∷ []) (device_here p met above) ((if is_compatible p then 1 else 0) + met) kids
    ++ entries_among node_path chain above (((if is_compatible p then 1 else 0) + device_count kids) + met) rest)

-- the nodes of a tree that aren't reserved, the root first, which is no device
abbrev pub entries : NodeData → List Entry
entries root = entry [] (root.properties ∷ []) None ∷ entries_among [] (root.properties ∷ []) None 0 (unreserved root.children)

-- ---- what is read off
-- the last of a chain
abbrev pub own_properties : List (List Property) → List Property
own_properties [] = []
own_properties (p ∷ []) = p
own_properties (p ∷ q ∷ ps) = own_properties (q ∷ ps)

abbrev pub is_device_entry : Entry → Bool
is_device_entry e = not (length e.node_path == 0) && is_compatible (own_properties e.chain)

abbrev pub device_of_entry : Entry → TreeDevice
device_of_entry e = record { path = path_text e.node_path; available = list_all is_okay e.chain; properties = own_properties e.chain }

abbrev pub target_of_entry : Entry → Target
target_of_entry e = record { properties = own_properties e.chain; device = e.device }

-- the devices that were met
abbrev pub devices_met : List Entry → List TreeDevice
devices_met met = map device_of_entry (filter is_device_entry met)

abbrev pub has_phandle : ℕ → Entry → Bool
has_phandle phandle e = option_map_or (nat_eq phandle) (phandle_of (own_properties e.chain)) false

-- the first entry's with the phandle
abbrev pub target_met : List Entry → ℕ → Option Target
target_met met phandle = option_map target_of_entry (find (has_phandle phandle) met)
