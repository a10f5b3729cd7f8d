-- To which controller an interrupt goes (Devicetree Specification v0.4, section 2.4): the interrupt tree, and the maps of nexus nodes
-- (section 2.4.3), as drivers/of/irq.c of Linux 6.1 follows them. Unit addresses and specifiers are read as their bytes, four a cell.
use Rattle.std.specs.Prelude.{ℕ, zero, suc, ◌+◌, ◌*◌, Bool, true, false, not, ◌&&◌, ◌||◌, ◌==◌, nat_le, bit_and, codes, if◌then◌else◌, List, [], ◌∷◌, ◌++◌, length, take, drop, Option, Some, None, is_some, option_and_then}
use Rattle.std.specs.Option.{option_map, option_map_or}
use Rattle.std.specs.List.{list_any}
use Rattle.dt_tree.specs.Cell.{cell_in}
use Rattle.bus_plan.specs.PlanPaths.{is_among}
use Rattle.bus_drivers.specs.Nodes.{is_okay}
use Rattle.bus_drivers.specs.References.{cells_of}
use Rattle.bus_drivers.specs.TreePlan.{strings}
use Rattle.bus_links.specs.Bindings.LinkNodes.{LinkNode, node_at, value_at, place_with}

-- ---- what nodes say
abbrev pub has : List LinkNode → ℕ → List ℕ → Bool
has nodes place name = is_some (value_at nodes place name)

-- the bytes of a node's property of this name
abbrev pub bytes_at : List LinkNode → ℕ → List ℕ → List ℕ
bytes_at nodes place name = option_map_or (λ v. v) (value_at nodes place name) []

-- the number in a node's property of this name
abbrev pub number_in : List LinkNode → ℕ → List ℕ → Option ℕ
number_in nodes place name = option_and_then cell_in (value_at nodes place name)

-- or this one
abbrev pub number_at : List LinkNode → ℕ → List ℕ → ℕ → ℕ
number_at nodes place name otherwise = option_map_or (λ n. n) (number_in nodes place name) otherwise

-- the first of these cells
abbrev pub first_of : List ℕ → Option ℕ
first_of [] = None
first_of (cell ∷ more) = Some cell

-- the first cell of a node's property of this name
abbrev pub first_in : List LinkNode → ℕ → List ℕ → Option ℕ
first_in nodes place name = option_and_then (λ value. first_of (cells_of value)) (value_at nodes place name)

-- the node that a value refers to by its first cell
abbrev pub named_by : List LinkNode → List ℕ → Option ℕ
named_by nodes value = option_and_then (place_with nodes) (first_of (cells_of value))

-- more steps than any way has that ends
unfoldable pub most_steps : ℕ
most_steps = 128

-- ---- the interrupt tree
-- the next node on the way to the interrupt parent: that of `interrupt-parent`, else (without it, or where it has no cell) the node above
abbrev pub above_of : List LinkNode → ℕ → Option ℕ
above_of nodes place = if place == 0 then None else Some (node_at nodes place).above

abbrev pub towards : List LinkNode → ℕ → Option ℕ
towards nodes place = option_map_or (place_with nodes) (first_in nodes place (codes "interrupt-parent")) (above_of nodes place)

-- the first node on that way that takes interrupts, in at most so many steps
abbrev pub parent_within : List LinkNode → ℕ → ℕ → Option ℕ
parent_within nodes zero place = None
parent_within nodes (suc steps) place =
    option_and_then (λ p. if has nodes p (codes "#interrupt-cells") then Some p else parent_within nodes steps p) (towards nodes place)

abbrev pub interrupt_parent : List LinkNode → ℕ → Option ℕ
interrupt_parent nodes place = parent_within nodes most_steps place

-- ---- maps
-- what is asked of a node: the unit address and then the specifier of an interrupt, to be found in its map
pub record Asked : Type 0 where
  pub place : ℕ
  pub key : List ℕ

-- a byte of a mask that isn't there is full
abbrev pub first_mask : List ℕ → ℕ
first_mask [] = 255
first_mask (m ∷ ms) = m

-- a row is for a key that agrees with it under the mask
abbrev pub agrees : List ℕ → List ℕ → List ℕ → Bool
agrees masks [] row = true
agrees masks (k ∷ ks) [] = false
agrees masks (k ∷ ks) (r ∷ rs) = bit_and k (first_mask masks) == bit_and r (first_mask masks) && agrees (drop 1 masks) ks rs

-- how many bytes a unit address and a specifier take of a node that takes interrupts: as `#address-cells` (none without it) and
-- `#interrupt-cells` say
abbrev pub bytes_taken : List LinkNode → ℕ → Option ℕ
bytes_taken nodes place =
    option_map (λ cells. 4 * (number_at nodes place (codes "#address-cells") 0 + cells)) (number_in nodes place (codes "#interrupt-cells"))

-- Linux takes 16 cells at most
unfoldable pub most_bytes : ℕ
most_bytes = 64

-- the node that a row leads to by the phandle at its front, and how many bytes are for that one
pub record Parent : Type 0 where
  pub node : ℕ
  pub bytes : ℕ

abbrev pub parent_with : List LinkNode → List ℕ → ℕ → Option Parent
parent_with nodes row node =
    option_and_then (λ bytes. if nat_le (bytes + 4) (length row) && nat_le bytes most_bytes then Some (record { node = node; bytes = bytes }) else None) (bytes_taken nodes node)

abbrev pub parent_in : List LinkNode → List ℕ → Option Parent
parent_in nodes row = option_and_then (parent_with nodes row) (named_by nodes row)

-- what the first of so many rows that is for the key, and whose parent is okay, asks of that one; a row that is malformed ends them
abbrev pub row_within : List LinkNode → List ℕ → List ℕ → ℕ → List ℕ → Option Asked
row_within nodes masks key zero rows = None
row_within nodes masks key (suc left) rows =
    if nat_le (length key + 8) (length rows)
    then option_and_then
    (λ p. if agrees masks key rows && is_okay (node_at nodes p.node).properties
    then Some (record { place = p.node; key = take p.bytes (drop (length key + 4) rows) })
    else row_within nodes masks key left (drop (length key + 4 + p.bytes) rows))
    (parent_in nodes (drop (length key) rows))
    else None

abbrev pub row_for : List LinkNode → List ℕ → List ℕ → List ℕ → Option Asked
row_for nodes masks key rows = row_within nodes masks key (length rows) rows

-- ---- controllers
-- Linux leaves the maps of these controllers to their drivers
abbrev pub own_maps : List (List ℕ)
own_maps =
    codes "CBEA,platform-spider-pic" ∷ codes "sti,platform-spider-pic" ∷ codes "realtek,rtl-intc" ∷ codes "fsl,ls1021a-extirq"
    ∷ codes "fsl,ls1043a-extirq" ∷ codes "fsl,ls1088a-extirq" ∷ codes "renesas,rza1-irqc" ∷ codes "pasemi,rootbus" ∷ []

abbrev pub has_own_map : List LinkNode → ℕ → Bool
has_own_map nodes place = list_any (λ string. is_among string own_maps) (strings (bytes_at nodes place (codes "compatible")))

-- an interrupt ends at a controller; one with a map goes on, unless the map is for its driver
abbrev pub is_controller : List LinkNode → ℕ → Bool
is_controller nodes place =
    has nodes place (codes "interrupt-controller") && (not (has nodes place (codes "interrupt-map")) || has_own_map nodes place)

-- where an interrupt goes on from a node: by its map, else to its interrupt parent
abbrev pub asked_next : List LinkNode → ℕ → List ℕ → Option Asked
asked_next nodes place key =
    option_map_or (row_for nodes (bytes_at nodes place (codes "interrupt-map-mask")) key) (value_at nodes place (codes "interrupt-map"))
    (option_map (λ p. record { place = p; key = key }) (interrupt_parent nodes place))

-- a map that leads to its own node ends there
abbrev pub controller_within : List LinkNode → ℕ → ℕ → List ℕ → Option ℕ
controller_within nodes zero place key = None
controller_within nodes (suc steps) place key =
    if is_controller nodes place then Some place
    else option_and_then (λ a. if a.place == place then Some place else controller_within nodes steps a.place a.key) (asked_next nodes place key)

-- ---- an interrupt of a node
-- of the nearest node at or above this one that says it, in at most so many steps; 2 where none does
abbrev pub address_cells_within : List LinkNode → ℕ → ℕ → ℕ
address_cells_within nodes zero place = 2
address_cells_within nodes (suc steps) place =
    if has nodes place (codes "#address-cells") then number_at nodes place (codes "#address-cells") 2
    else (if place == 0 then 2 else address_cells_within nodes steps (node_at nodes place).above)

abbrev pub address_bytes : List LinkNode → ℕ → ℕ
address_bytes nodes place = 4 * address_cells_within nodes most_steps place

-- so many of these bytes, filled up by zeros
abbrev pub first_byte : List ℕ → ℕ
first_byte [] = 0
first_byte (b ∷ bs) = b

abbrev pub padded : ℕ → List ℕ → List ℕ
padded zero bytes = []
padded (suc n) bytes = first_byte bytes ∷ padded n (drop 1 bytes)

-- the key of an interrupt with this specifier at a node that takes it: before the specifier the first address of `reg`, three cells
-- of it at most
abbrev pub key_of : List LinkNode → ℕ → ℕ → List ℕ → List ℕ
key_of nodes own place specifier = padded (address_bytes nodes place) (take 12 (bytes_at nodes own (codes "reg"))) ++ specifier

-- the controller of an interrupt of this node with this specifier, at the node that takes it first
abbrev pub controller_of : List LinkNode → ℕ → ℕ → List ℕ → Option ℕ
controller_of nodes own place specifier =
    if nat_le (address_bytes nodes place + length specifier) most_bytes
    then controller_within nodes most_steps place (key_of nodes own place specifier) else None
