-- What the merge of one node into another makes of the node (Devicetree Specification v0.4, section 6.3). `Merged` says the same of the path map.
use Rattle.std.specs.Prelude.{ℕ, ◌-◌, not, List, [], ◌∷◌, ◌++◌, map, filter, Option, Some, None, unwrap_or, if◌then◌else◌, nat_lt}
use Rattle.std.specs.BTreeMap.{BTreeMap, get_by}
use Rattle.std.specs.Cmp.Lexicographic.{slice_cmp}
use Rattle.std.specs.Option.{option_map_or}
use Rattle.std.specs.Ordering.{nat_cmp}
use denote.Ref.{Bor}
use Rattle.dt_tree.specs.declared.error.TreeError.{TreeError}
use Rattle.dt_tree.specs.declared.error.TreeError.TheVariants.{TooDeep, NoSuchPath}
use Rattle.dt_tree.specs.declared.property.Property.{Property}
use Rattle.dt_tree.specs.NodeData.{Siblings, none, more, NodeData, node_data, child_names, property_names, height_of}
use Rattle.dt_tree.specs.PathMap.{child_named, value_of}
use Rattle.dt_tree.specs.Sound.{is_among}

-- what a map has at a name
abbrev pub named : {X : Type 0} → BTreeMap (Bor (List ℕ)) X → List ℕ → Option X
named m k = get_by (λ j. slice_cmp nat_cmp k j.now) m

abbrev pub property_of : List ℕ → List ℕ → Property
property_of n v = record { name = n; value = v }

-- the property with its value among qs, where they have one
abbrev pub with_value : List Property → Property → Property
with_value qs p = record { name = p.name; value = unwrap_or (value_of qs p.name) p.value }

-- those whose names are not among ns
abbrev pub new_properties : List (List ℕ) → List Property → List Property
new_properties ns qs = filter (λ q. not (is_among q.name ns)) qs

abbrev pub new_nodes : List (List ℕ) → List NodeData → List NodeData
new_nodes ns bs = filter (λ b. not (is_among b.name ns)) bs

abbrev pub merged_properties : List Property → List Property → List Property
merged_properties ps qs = map (with_value qs) ps ++ new_properties (property_names ps) qs

-- the nodes whose names are not among ns
abbrev pub new_siblings : List (List ℕ) → Siblings → Siblings
new_siblings ns none = none
new_siblings ns (more n p c rest) = if is_among n ns then new_siblings ns rest else more n p c (new_siblings ns rest)

-- each of the first nodes with the one of its name among the second merged into it, and then the third
abbrev pub merged_with : Siblings → Siblings → Siblings → Siblings
merged_with none g t = t
merged_with (more n p c rest) g t =
    more n (option_map_or (λ b. merged_properties p b.properties) (child_named g n) p) (option_map_or (λ b. merged_with c b.children (new_siblings (child_names c) b.children)) (child_named g n) c) (merged_with rest g t)

abbrev pub merged_siblings : Siblings → Siblings → Siblings
merged_siblings f g = merged_with f g (new_siblings (child_names f) g)

-- the second node merged into the first
abbrev pub merged : NodeData → NodeData → NodeData
merged a b = node_data a.name (merged_properties a.properties b.properties) (merged_siblings a.children b.children)

-- the node with the one of its name merged into it, where there is one
abbrev pub merged_child : Siblings → NodeData → NodeData
merged_child g a = option_map_or (merged a) (child_named g a.name) a

-- why b is not merged into the node at a path below a, where there may be so many levels below a
abbrev pub merge_refusal : List (List ℕ) → ℕ → NodeData → NodeData → Option TreeError
merge_refusal [] room b a = if nat_lt room (height_of b.children) then Some TooDeep else None
merge_refusal (k ∷ ks) room b a = option_map_or (merge_refusal ks (room - 1) b) (child_named a.children k) (Some NoSuchPath)
