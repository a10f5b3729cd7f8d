-- A tree as what a source says of it (Devicetree Specification v0.4, chapter 6): one root, each property with plain bytes, each node
-- behind its parent's properties, no label and no reference.
use Rattle.std.specs.Prelude.{ℕ, false, List, [], ◌∷◌}
use Rattle.dt_tree.specs.declared.property.Property.{Property}
use Rattle.dt_tree.specs.NodeData.{Siblings, none, more}
use Rattle.dt_tree.specs.TreeData.{TreeData}
use Rattle.dt_source.specs.TreeMeaning.Syntax.{Piece, Plain, Defines, Child, Body, Done, Then, Rooted, Meaning}

-- an empty value has no parts
abbrev pub value_of : List ℕ → List Piece
value_of [] = []
value_of (b ∷ bytes) = Plain (b ∷ bytes) ∷ []

-- properties, and what stands behind them
abbrev pub with_properties : List Property → Body (List Piece) → Body (List Piece)
with_properties [] body = body
with_properties (x ∷ xs) body = Then (Defines x.name (value_of x.value)) (with_properties xs body)

abbrev pub nodes_of : Siblings → Body (List Piece)
nodes_of none = Done
nodes_of (more n p c rest) = Then (Child false [] n (with_properties p (nodes_of c))) (nodes_of rest)

abbrev pub source_of : TreeData → Meaning
source_of t = record {
  plugin = false;
  reserves = t.reserves;
  items = Rooted (with_properties t.root.properties (nodes_of t.root.children)) ∷ [];
}
