-- Nodes side by side with one unit address (Devicetree Specification v0.4, section 2.2.1.1; dtc's check `unique_unit_address`): below
-- each node that says how many cells addresses and sizes have, each later node is told of each earlier one. Nodes go by their places
-- in preorder.
use Rattle.std.specs.Prelude.{ℕ, ◌+◌, ◌-◌, Bool, true, false, not, ◌&&◌, ◌==◌, nat_lt, codes, if◌then◌else◌}
use Rattle.std.specs.Prelude.{List, [], ◌∷◌, ◌++◌, length, drop, filter}
use Rattle.std.specs.Option.{option_map_or}
use Rattle.std.specs.Str.{bytes_eq}
use Rattle.dt_tree.specs.NodeData.{NodeData}
use Rattle.dt_tree.specs.PathMap.{value_of}
use Rattle.dt_check.specs.declared.message.Message.TheVariants.{SameUnit}
use Rattle.dt_check.specs.Cells.{has}
use Rattle.dt_check.specs.Fault.{of_node}
use Rattle.dt_check.specs.Nodes.{PlacedData, node_at}
use Rattle.dt_check.specs.Unit.{unit_address}
use Rattle.dt_check.specs.UnitRules.{has_unit}
use Rattle.dtman_check.specs.declared.table.units.Counted.{Counted}
use Rattle.dtman_check.specs.declared.table.units.Counted.TheVariants.{All, Enabled}
use Rattle.dtman_check.specs.Table.Finding.{FindingData, finding}

-- `status` says so (section 2.3.4)
abbrev pub is_disabled : NodeData → Bool
is_disabled b = option_map_or (λ v. bytes_eq v (codes "disabled" ++ 0 ∷ [])) (value_of b.properties (codes "status")) false

abbrev pub counts : Counted → NodeData → Bool
counts All b = true
counts Enabled b = not (is_disabled b)

-- a node with a unit address, that counts
abbrev pub is_unit : Counted → NodeData → Bool
is_unit counted b = has_unit b && counts counted b

-- such a node right below the one at a place
abbrev pub is_unit_below : Counted → ℕ → PlacedData → Bool
is_unit_below counted above p = option_map_or (λ place. is_unit counted p.node && place == above) p.above false

-- those of these nodes, the first of which has this place
abbrev pub units_from : Counted → ℕ → ℕ → List PlacedData → List ℕ
units_from counted above place [] = []
units_from counted above place (p ∷ ps) =
    if is_unit_below counted above p then place ∷ units_from counted above (place + 1) ps else units_from counted above (place + 1) ps

abbrev pub address_at : List PlacedData → ℕ → List ℕ
address_at nodes place = option_map_or (λ b. unit_address b.name) (node_at nodes place) []

-- those with this address
abbrev pub of_address : List PlacedData → List ℕ → List ℕ → List ℕ
of_address nodes address places = filter (λ place. bytes_eq (address_at nodes place) address) places

-- those that a later node is told of: all of them, or of 64 and more the nearest sixteen
abbrev pub told : List ℕ → List ℕ
told places = if nat_lt (length places) 64 then places else drop (length places - 16) places

-- each is at fault, since the later one has its address
abbrev pub same_units : ℕ → ℕ → List ℕ → List FindingData
same_units check later [] = []
same_units check later (e ∷ es) = finding check e (of_node (SameUnit later)) ∷ same_units check later es

-- of nodes side by side, behind those that stand before them
abbrev pub pairs_from : ℕ → List PlacedData → List ℕ → List ℕ → List FindingData
pairs_from check nodes before [] = []
pairs_from check nodes before (later ∷ more) =
    same_units check later (told (of_address nodes (address_at nodes later) before)) ++ pairs_from check nodes (before ++ later ∷ []) more

abbrev pub says_cells : NodeData → Bool
says_cells b = has b.properties (codes "#address-cells") && has b.properties (codes "#size-cells")

-- of these nodes below one
abbrev pub pairs_below : ℕ → List PlacedData → NodeData → List ℕ → List FindingData
pairs_below check nodes above units = if says_cells above then pairs_from check nodes [] units else []

-- below each of these nodes, the first of which has this place
abbrev pub units_found_from : ℕ → Counted → List PlacedData → ℕ → List PlacedData → List FindingData
units_found_from check counted nodes above [] = []
units_found_from check counted nodes above (p ∷ ps) =
    pairs_below check nodes p.node (units_from counted above 0 nodes) ++ units_found_from check counted nodes (above + 1) ps

abbrev pub units_found : ℕ → Counted → List PlacedData → List FindingData
units_found check counted nodes = units_found_from check counted nodes 0 nodes
