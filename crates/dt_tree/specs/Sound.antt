-- What is true of each node: lawful names, siblings that differ, at most 64 levels below it.
use Rattle.std.specs.Prelude.{ℕ, ◌≤◌, Bool, true, false, not, ◌&&◌, ◌||◌, ◌==◌, List, [], ◌∷◌, length, IsTrue}
use Rattle.std.specs.Str.{bytes_eq}
use Rattle.dt_tree.specs.Limits.{depth_limit}
use Rattle.dt_tree.specs.declared.property.Property.{Property}
use Rattle.dt_tree.specs.Name.{is_name, are_names}
use Rattle.dt_tree.specs.NodeData.{Siblings, none, more, NodeData, child_names, property_names, height_of}

-- the name is one of these
abbrev pub is_among : List ℕ → List (List ℕ) → Bool
is_among n [] = false
is_among n (m ∷ ms) = bytes_eq m n || is_among n ms

-- no name stands twice
abbrev pub are_distinct : List (List ℕ) → Bool
are_distinct [] = true
are_distinct (n ∷ ns) = not (is_among n ns) && are_distinct ns

-- the properties have names, each another one
pub record AreSound (ps : List Property) : Type 0 where
  pub named : IsTrue (are_names (property_names ps))
  pub distinct : IsTrue (are_distinct (property_names ps))

-- nodes side by side have names, each another one
pub record AreSiblings (f : Siblings) : Type 0 where
  pub named : IsTrue (are_names (child_names f))
  pub distinct : IsTrue (are_distinct (child_names f))

-- and so at every level
abbrev pub IsSoundBelow : Siblings → Type 0
IsSoundBelow none = Unit {0}
IsSoundBelow (more n p c rest) = AreSound p × AreSiblings c × IsSoundBelow c × IsSoundBelow rest

-- a node, with at most so many levels below it
pub record IsSound (b : NodeData) : Type 0 where
  pub own_name : IsTrue (length b.name == 0 || is_name b.name)
  pub properties : AreSound b.properties
  pub siblings : AreSiblings b.children
  pub below : IsSoundBelow b.children
  pub shallow : height_of b.children ≤ depth_limit
