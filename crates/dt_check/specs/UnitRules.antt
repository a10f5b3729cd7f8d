-- Unit addresses (Devicetree Specification v0.4, section 2.2.1.1): a node has one exactly where it has `reg`, or `ranges` with entries;
-- the fragments of an overlay have none. It has no `0x` and no zeros in front, unless a bus says how it is written.
use Rattle.std.specs.Prelude.{ℕ, Bool, true, false, not, ◌&&◌, ◌||◌, ◌==◌, nat_le, codes, if◌then◌else◌, List, [], ◌∷◌, drop, length, Option, Some, None}
use Rattle.std.specs.Option.{option_map_or}
use Rattle.std.specs.List.{list_any}
use Rattle.std.specs.Str.{bytes_eq}
use Rattle.dt_tree.specs.NodeData.{NodeData, nodes_of}
use Rattle.dt_tree.specs.PathMap.{value_of}
use Rattle.dt_check.specs.declared.message.Message.TheVariants.{NoUnit, NoReg, LeadingHex, LeadingZero}
use Rattle.dt_check.specs.Buses.{is_pci, is_simple}
use Rattle.dt_check.specs.Cells.{has}
use Rattle.dt_check.specs.Fault.{FaultData, of_node}
use Rattle.dt_check.specs.Nodes.{HereData}
use Rattle.dt_check.specs.Unit.{unit_address}

abbrev pub is_overlay : NodeData → Bool
is_overlay b = bytes_eq b.name (codes "__overlay__")

abbrev pub has_overlay : NodeData → Bool
has_overlay b = list_any is_overlay (nodes_of b.children)

abbrev pub has_address : NodeData → Bool
has_address b =
    if has b.properties (codes "reg") then true
    else option_map_or (λ v. not (length v == 0)) (value_of b.properties (codes "ranges")) false

abbrev pub has_unit : NodeData → Bool
has_unit b = not (length (unit_address b.name) == 0)

-- one of the two stands without the other
abbrev pub one_alone : Bool → Bool → Option FaultData
one_alone true false = Some (of_node NoUnit)
one_alone false true = Some (of_node NoReg)
one_alone true true = None
one_alone false false = None

abbrev pub unit_fault : HereData → Option FaultData
unit_fault here = if has_overlay here.node then None else one_alone (has_address here.node) (has_unit here.node)

-- the unit address, where no bus says how it is written
abbrev pub is_own : HereData → Bool
is_own here = option_map_or (λ above. is_pci above || is_simple above) here.above false

abbrev pub unit_of : HereData → List ℕ
unit_of here = if is_own here then [] else unit_address here.node.name

abbrev pub leading_hex : List ℕ → Bool
leading_hex [] = false
leading_hex (a ∷ []) = false
leading_hex (a ∷ (b ∷ bs)) = a == 48 && b == 120

abbrev pub without_hex : List ℕ → List ℕ
without_hex unit = if leading_hex unit then drop 2 unit else unit

abbrev pub is_hex_digit : ℕ → Bool
is_hex_digit b = (nat_le 48 b && nat_le b 57) || (nat_le 97 b && nat_le b 102) || (nat_le 65 b && nat_le b 70)

abbrev pub leading_zero : List ℕ → Bool
leading_zero [] = false
leading_zero (a ∷ []) = false
leading_zero (a ∷ (b ∷ bs)) = a == 48 && is_hex_digit b

abbrev pub hex_fault : HereData → Option FaultData
hex_fault here = if leading_hex (unit_of here) then Some (of_node LeadingHex) else None

abbrev pub zero_fault : HereData → Option FaultData
zero_fault here = if leading_zero (without_hex (unit_of here)) then Some (of_node LeadingZero) else None
