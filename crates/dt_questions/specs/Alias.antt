-- Paths by aliases (Devicetree Specification v0.4, section 3.3): a property of `/aliases` is a name for the full path in its value, a string
-- (section 2.2.4.2, ended by a zero byte). A text that doesn't begin with a slash begins with such a name, up to its first slash.
use Rattle.std.specs.Prelude.{ℕ, ◌==◌, codes, position, if◌then◌else◌, List, ◌++◌, length, take, drop, Option, unwrap_or, option_and_then, Result, Ok, Err}
use Rattle.std.specs.Option.{option_map, option_map_or}
use Rattle.dt_tree.specs.NodeData.{NodeData}
use Rattle.dt_tree.specs.Path.{is_path}
use Rattle.dt_tree.specs.PathMap.{child_named, value_of}
use Rattle.dt_questions.specs.declared.alias.PathFault.{PathFault}
use Rattle.dt_questions.specs.declared.alias.PathFault.TheVariants.{BadPath, NoAlias}

-- where the first name of a text ends
abbrev pub first_end : List ℕ → ℕ
first_end text = unwrap_or (position (λ b. b == 47) text) (length text)

-- the string at the front of a value
abbrev pub string_in : List ℕ → Option (List ℕ)
string_in value = option_map (λ end. take end value) (position (λ b. b == 0) value)

-- the path that a name stands for
abbrev pub alias_of : NodeData → List ℕ → Option (List ℕ)
alias_of root name = option_and_then (λ d. option_and_then string_in (value_of d.properties name)) (child_named root.children (codes "aliases"))

abbrev pub checked : List ℕ → Result (List ℕ) PathFault
checked text = if is_path text then Ok text else Err BadPath

-- the path that a text is, or why it is none
abbrev pub path_by : NodeData → List ℕ → Result (List ℕ) PathFault
path_by root text =
    if first_end text == 0 then checked text
    else option_map_or (λ path. checked (path ++ drop (first_end text) text)) (alias_of root (take (first_end text) text)) (Err NoAlias)
