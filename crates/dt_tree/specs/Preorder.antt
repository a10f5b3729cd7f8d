-- The order in which a tree is read: a node before all below it, and a child with all below it before the next child.
use Rattle.std.specs.Prelude.{ℕ, Bool, true, false, List, [], ◌∷◌, ◌++◌, map, if◌then◌else◌, unwrap_or}
use Rattle.std.specs.Str.{bytes_eq}
use Rattle.dt_tree.specs.NodeData.{Siblings, none, more, NodeData}
use Rattle.dt_tree.specs.PathMap.{PathMap}
use Rattle.dt_tree.specs.Sound.{is_among}

-- x stands before y in the list
abbrev pub is_earlier : List ℕ → List ℕ → List (List ℕ) → Bool
is_earlier x y [] = false
is_earlier x y (n ∷ ns) = if bytes_eq n x then is_among y ns else is_earlier x y ns

-- the part of a map from a child on, with paths that begin at the child
abbrev pub part_below : {V : Type 0} → PathMap V → List ℕ → PathMap V
part_below m k = record {
  has = λ path. m.has (k ∷ path);
  properties = λ path. m.properties (k ∷ path);
  children = λ path. m.children (k ∷ path);
  value = λ path j. m.value (k ∷ path) j;
}

-- the node at the first path stands before the node at the second
abbrev pub precedes : {V : Type 0} → PathMap V → List (List ℕ) → List (List ℕ) → Bool
precedes m [] [] = false
precedes m [] (y ∷ ys) = true
precedes m (x ∷ xs) [] = false
precedes m (x ∷ xs) (y ∷ ys) = if bytes_eq x y then precedes (part_below m x) xs ys else is_earlier x y (unwrap_or (m.children []) [])

-- the paths of nodes side by side, each first and then those below it
abbrev pub paths_among : Siblings → List (List (List ℕ))
paths_among none = []
paths_among (more n p c rest) = map (λ path. n ∷ path) ([] ∷ paths_among c) ++ paths_among rest

-- the paths of a tree in this order, from its root on
abbrev pub preorder : NodeData → List (List (List ℕ))
preorder root = [] ∷ paths_among root.children
