-- `/aliases` (Devicetree Specification v0.4, section 3.3): each property holds the path of a node, by a name of lower case letters, digits
-- and `-`. A slash more in a path counts for nothing.
use Rattle.std.specs.Prelude.{ℕ, Bool, false, not, ◌&&◌, ◌||◌, ◌==◌, nat_le, position, find, codes, if◌then◌else◌, List, [], ◌∷◌, take, length, Option, Some, None, is_some, option_and_then}
use Rattle.std.specs.Option.{option_map, option_map_or}
use Rattle.std.specs.List.{slice_split}
use Rattle.std.specs.Str.{bytes_eq}
use Rattle.dt_tree.specs.declared.property.Property.{Property}
use Rattle.dt_tree.specs.NodeData.{NodeData}
use Rattle.dt_tree.specs.PathMap.{child_named}
use Rattle.dt_check.specs.declared.message.Message.TheVariants.{NoAliasNode, AliasName}
use Rattle.dt_check.specs.Fault.{FaultData, of_node, of_property}

abbrev pub is_slash : ℕ → Bool
is_slash b = b == 47

-- a string without the zero that ends it
abbrev pub text_of : List ℕ → List ℕ
text_of v = option_map_or (λ end. take end v) (position (λ b. b == 0) v) v

-- the child of this name, the node itself for no name
abbrev pub below : List ℕ → NodeData → Option NodeData
below name b = if length name == 0 then Some b else child_named b.children name

abbrev pub at_names : NodeData → List (List ℕ) → Option NodeData
at_names b [] = Some b
at_names b (n ∷ ns) = option_and_then (λ c. at_names c ns) (below n b)

abbrev pub leads_to_node : NodeData → List ℕ → Bool
leads_to_node root v = if length v == 0 then false else is_some (at_names root (slice_split is_slash (text_of v)))

abbrev pub is_alias_byte : ℕ → Bool
is_alias_byte b = (nat_le 97 b && nat_le b 122) || (nat_le 48 b && nat_le b 57) || b == 45

abbrev pub alias_name_fault : List ℕ → Option FaultData
alias_name_fault name = option_map (λ _. of_node AliasName) (find (λ b. not (is_alias_byte b)) name)

abbrev pub is_apart : List ℕ → Bool
is_apart name = bytes_eq name (codes "phandle") || bytes_eq name (codes "linux,phandle")

abbrev pub alias_fault : NodeData → Property → Option FaultData
alias_fault root p =
    if is_apart p.name then None
    else (if leads_to_node root p.value then alias_name_fault p.name else Some (of_property p.name NoAliasNode))
