-- What contracts see of a node (Devicetree Specification v0.4, section 2.2): its name, its properties and its children, in order.
use Rattle.std.specs.Prelude.{ℕ, ◌+◌, max, List, [], ◌∷◌}
use Rattle.dt_tree.specs.declared.property.Property.{Property}

-- nodes side by side: the first one's name, properties and children, and then the others
pub data Siblings : Type 0 where
  none : Siblings
  more : List ℕ → List Property → Siblings → Siblings → Siblings

-- a node; the empty name is the root's
pub record NodeData : Type 0 where
  pub name : List ℕ
  pub properties : List Property
  pub children : Siblings

abbrev pub node_data : List ℕ → List Property → Siblings → NodeData
node_data n p c = record { name = n; properties = p; children = c }

-- a list of nodes side by side, and back
abbrev pub siblings : List NodeData → Siblings
siblings [] = none
siblings (b ∷ bs) = more b.name b.properties b.children (siblings bs)

abbrev pub nodes_of : Siblings → List NodeData
nodes_of none = []
nodes_of (more n p c rest) = record { name = n; properties = p; children = c } ∷ nodes_of rest

-- the names, in order
abbrev pub child_names : Siblings → List (List ℕ)
child_names none = []
child_names (more n p c rest) = n ∷ child_names rest

abbrev pub property_names : List Property → List (List ℕ)
property_names [] = []
property_names (p ∷ ps) = p.name ∷ property_names ps

-- how many nodes, with those below them
abbrev pub siblings_size : Siblings → ℕ
siblings_size none = 0
siblings_size (more n p c rest) = (siblings_size c + 1) + siblings_size rest

abbrev pub node_size : NodeData → ℕ
node_size b = siblings_size b.children + 1

-- how many levels
abbrev pub height_of : Siblings → ℕ
height_of none = 0
height_of (more n p c rest) = max (height_of c + 1) (height_of rest)
