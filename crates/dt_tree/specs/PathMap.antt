-- A tree as what stands at each path. A path is keyed by the names below the root, in order.
use Rattle.std.specs.Prelude.{◌≡◌, ℕ, Bool, true, false, List, [], ◌∷◌, ◌++◌, Option, Some, None, if◌then◌else◌, is_some, option_and_then}
use Rattle.std.specs.Option.{option_map}
use Rattle.std.specs.Str.{bytes_eq}
use Rattle.dt_tree.specs.declared.property.Property.{Property}
use Rattle.dt_tree.specs.NodeData.{Siblings, none, more, NodeData, child_names, property_names}
use Rattle.dt_tree.specs.Sound.{is_among, are_distinct}
use Rattle.dt_tree.specs.TreeData.{TreeData}

-- whether a node stands at each path, the names of its properties and of its children in order, and the value of each property
pub record PathMap (V : Type 0) : Type 0 where
  pub has : List (List ℕ) → Bool
  pub properties : List (List ℕ) → Option (List (List ℕ))
  pub children : List (List ℕ) → Option (List (List ℕ))
  pub value : List (List ℕ) → List ℕ → Option V

-- the child of this name
abbrev pub child_named : Siblings → List ℕ → Option NodeData
child_named none k = None
child_named (more n p c rest) k = if bytes_eq n k then Some (record { name = n; properties = p; children = c }) else child_named rest k

-- the node at a path
abbrev pub node_at : NodeData → List (List ℕ) → Option NodeData
node_at b [] = Some b
node_at b (k ∷ ks) = option_and_then (λ c. node_at c ks) (child_named b.children k)

-- the bytes of the property of this name
abbrev pub value_of : List Property → List ℕ → Option (List ℕ)
value_of [] k = None
value_of (p ∷ ps) k = if bytes_eq p.name k then Some p.value else value_of ps k

-- the properties and the children's names at a path
abbrev pub properties_at : NodeData → List (List ℕ) → Option (List Property)
properties_at b path = option_map (λ n. n.properties) (node_at b path)

abbrev pub children_at : NodeData → List (List ℕ) → Option (List (List ℕ))
children_at b path = option_map (λ n. child_names n.children) (node_at b path)

abbrev pub path_map : NodeData → PathMap (List ℕ)
path_map b = record {
  has = λ path. is_some (node_at b path);
  properties = λ path. option_map property_names (properties_at b path);
  children = λ path. children_at b path;
  value = λ path k. option_and_then (λ ps. value_of ps k) (properties_at b path);
}

-- a whole tree
pub record TreeMap : Type 0 where
  pub nodes : PathMap (List ℕ)
  pub reserves : List (ℕ × ℕ)
  pub boot_cpu : ℕ

abbrev pub tree_map : TreeData → TreeMap
tree_map t = record { nodes = path_map t.root; reserves = t.reserves; boot_cpu = t.boot_cpu }

-- whether there is a list of names, with k in it
abbrev pub is_listed : List ℕ → Option (List (List ℕ)) → Bool
is_listed k None = false
is_listed k (Some ns) = is_among k ns

-- what is true of the map of each tree: it has `/` and with each path the one above it, and no name stands twice in a list
pub record IsPathMap {V : Type 0} (m : PathMap V) : Type 0 where
  pub root : m.has [] ≡ true
  pub above : (path : List (List ℕ)) (k : List ℕ) → m.has (path ++ k ∷ []) ≡ true → m.has path ≡ true
  pub below : (path : List (List ℕ)) (k : List ℕ) → m.has (path ++ k ∷ []) ≡ is_listed k (m.children path)
  pub child_lists : (path : List (List ℕ)) → is_some (m.children path) ≡ m.has path
  pub property_lists : (path : List (List ℕ)) → is_some (m.properties path) ≡ m.has path
  pub no_child_twice : (path : List (List ℕ)) (ns : List (List ℕ)) → m.children path ≡ Some ns → are_distinct ns ≡ true
  pub no_property_twice : (path : List (List ℕ)) (ns : List (List ℕ)) → m.properties path ≡ Some ns → are_distinct ns ≡ true
  pub values : (path : List (List ℕ)) (k : List ℕ) → is_some (m.value path k) ≡ is_listed k (m.properties path)
