-- The bytes of names (Devicetree Specification v0.4, tables 2.1 and 2.2), and those that dtc's manual recommends: letters, digits, `,`
-- and `-`, in a property's name also a `#` in front of it or behind its vendor's comma.
use Rattle.std.specs.Prelude.{ℕ, ◌+◌, ◌-◌, Bool, not, ◌&&◌, ◌||◌, ◌==◌, nat_le, position, codes, if◌then◌else◌, List, take, drop, length, slice_index, find, Option, Some, None, option_and_then}
use Rattle.std.specs.Option.{option_map}
use Rattle.std.specs.Str.{bytes_eq}
use Rattle.dt_tree.specs.declared.property.Property.{Property}
use Rattle.dt_tree.specs.PathMap.{value_of}
use Rattle.dt_check.specs.declared.message.Message.TheVariants.{BadNodeByte, OddNodeByte, SecondAt, NameTwice, BadPropertyByte, OddPropertyByte, WrongName}
use Rattle.dt_check.specs.Fault.{FaultData, of_node, of_property}
use Rattle.dt_check.specs.Nodes.{HereData}
use Rattle.dt_check.specs.Unit.{base_name, unit_address, is_at}

-- letters and digits
abbrev pub is_plain : ℕ → Bool
is_plain b = (nat_le 97 b && nat_le b 122) || (nat_le 65 b && nat_le b 90) || (nat_le 48 b && nat_le b 57)

-- and `, . _ + - @`
abbrev pub is_node_byte : ℕ → Bool
is_node_byte b = is_plain b || (b == 44 || b == 46 || b == 95 || b == 43 || b == 45 || b == 64)

-- and `, . _ + * # ? -`
abbrev pub is_property_byte : ℕ → Bool
is_property_byte b = is_plain b || (b == 44 || b == 46 || b == 95 || b == 43 || b == 42 || b == 35 || b == 63 || b == 45)

-- and `, -`
abbrev pub is_strict : ℕ → Bool
is_strict b = is_plain b || (b == 44 || b == 45)

abbrev pub node_byte_fault : HereData → Option FaultData
node_byte_fault here = option_map (λ b. of_node (BadNodeByte b)) (find (λ b. not (is_node_byte b)) here.node.name)

abbrev pub strict_node_fault : HereData → Option FaultData
strict_node_fault here = option_map (λ b. of_node (OddNodeByte b)) (find (λ b. not (is_strict b)) (base_name here.node.name))

abbrev pub second_at_fault : HereData → Option FaultData
second_at_fault here = option_map (λ _. of_node SecondAt) (position is_at (unit_address here.node.name))

-- a property of the node above has the node's name
abbrev pub name_twice_fault : HereData → Option FaultData
name_twice_fault here =
    option_and_then (λ above. option_map (λ _. of_node NameTwice) (value_of above.properties here.node.name)) here.above

-- a string without the zero that ends it
abbrev pub before_last : List ℕ → List ℕ
before_last v = if length v == 0 then v else take (length v - 1) v

-- the property `name` of old trees is the base of the node's name
abbrev pub name_fault : HereData → Option FaultData
name_fault here =
    option_and_then
    (λ v. if bytes_eq (before_last v) (base_name here.node.name) then None else Some (of_node WrongName))
    (value_of here.node.properties (codes "name"))

abbrev pub property_byte_fault : Property → Option FaultData
property_byte_fault p = option_map (λ b. of_property p.name (BadPropertyByte b)) (find (λ b. not (is_property_byte b)) p.name)

-- the first byte that isn't recommended, but for a `#` at its place
abbrev pub odd_behind : List ℕ → Option ℕ
odd_behind name = find (λ b. not (is_strict b)) name

abbrev pub odd_byte : List ℕ → Option ℕ
odd_byte name =
    option_and_then
    (λ place. if slice_index name place == 35 && (place == 0 || slice_index name (place - 1) == 44)
    then odd_behind (drop (place + 1) name) else Some (slice_index name place))
    (position (λ b. not (is_strict b)) name)

abbrev pub strict_property_fault : Property → Option FaultData
strict_property_fault p =
    if bytes_eq p.name (codes "device_type") then None
    else option_map (λ b. of_property p.name (OddPropertyByte b)) (odd_byte p.name)
