-- Strings, lists of strings and cells (Devicetree Specification v0.4, section 2.2.4, table 2.3): a string ends with a zero, a list of
-- strings is one string behind the other, a cell has four bytes. Which properties are which: sections 2.3.1 to 2.3.5, 2.4 and 2.5.
use Rattle.std.specs.Prelude.{ℕ, ◌-◌, Bool, true, false, ◌==◌, position, if◌then◌else◌, List, length, Option, Some, None, option_and_then}
use Rattle.std.specs.Option.{option_map_or}
use Rattle.std.specs.List.{slice_get, slice_split, list_any}
use Rattle.std.specs.Str.{bytes_eq}
use Rattle.dt_tree.specs.PathMap.{value_of}
use Rattle.dt_check.specs.declared.message.Message.TheVariants.{NotAString, NotAStringList, NotACell}
use Rattle.dt_check.specs.Fault.{FaultData, of_property}
use Rattle.dt_check.specs.Nodes.{HereData}

-- the first zero is the last byte
abbrev pub is_string : List ℕ → Bool
is_string v = option_map_or (λ end. end == length v - 1) (position (λ b. b == 0) v) false

-- there are no bytes, or the last is a zero
abbrev pub is_string_list : List ℕ → Bool
is_string_list v = option_map_or (λ b. b == 0) (slice_get v (length v - 1)) true

-- one of the strings is this one, which has bytes
abbrev pub has_string : List ℕ → List ℕ → Bool
has_string wanted v = list_any (λ s. bytes_eq s wanted) (slice_split (λ b. b == 0) v)

abbrev pub not_string : List ℕ → List ℕ → Option FaultData
not_string name v = if is_string v then None else Some (of_property name NotAString)

abbrev pub not_string_list : List ℕ → List ℕ → Option FaultData
not_string_list name v = if is_string_list v then None else Some (of_property name NotAStringList)

abbrev pub not_cell : List ℕ → List ℕ → Option FaultData
not_cell name v = if length v == 4 then None else Some (of_property name NotACell)

-- a property of this name that isn't what it has to be
abbrev pub string_fault : List ℕ → HereData → Option FaultData
string_fault name here = option_and_then (not_string name) (value_of here.node.properties name)

abbrev pub string_list_fault : List ℕ → HereData → Option FaultData
string_list_fault name here = option_and_then (not_string_list name) (value_of here.node.properties name)

abbrev pub cell_fault : List ℕ → HereData → Option FaultData
cell_fault name here = option_and_then (not_cell name) (value_of here.node.properties name)
