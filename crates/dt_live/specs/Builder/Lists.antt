-- A tree as the lists of its nodes below the root and of its properties, each before what is below it
-- (Devicetree Specification v0.4, sections 2.2 and 6.3).
use Rattle.std.specs.Prelude.{ℕ, List, [], ◌∷◌, ◌++◌, map}
use Rattle.dt_tree.specs.declared.property.Property.{Property}
use Rattle.dt_tree.specs.NodeData.{Siblings, none, more, NodeData}
use Rattle.dt_tree.specs.Preorder.{paths_among}
use Rattle.dt_source.specs.TreeMeaning.Paths.{Path}
use Rattle.dt_source.specs.TreeMeaning.Edits.{Definition, definition}
use Rattle.dt_source.specs.TreeMeaning.Resolved.{Resolved}

-- the properties of the node at a path
abbrev pub defined_at : Path → List Property → List (Definition (List ℕ))
defined_at p [] = []
defined_at p (x ∷ xs) = definition p x.name x.value ∷ defined_at p xs

-- the same below a child
abbrev pub below_child : List ℕ → Definition (List ℕ) → Definition (List ℕ)
below_child n e = definition (n ∷ e.path) e.name e.value

-- the properties of nodes side by side, each node's own and then those of the nodes below it
abbrev pub defined_among : Siblings → List (Definition (List ℕ))
defined_among none = []
defined_among (more n p c rest) = map (below_child n) (defined_at [] p ++ defined_among c) ++ defined_among rest

abbrev pub lists_of : NodeData → Resolved
lists_of b = record { nodes = paths_among b.children; properties = defined_at [] b.properties ++ defined_among b.children }

-- a node more, behind all others
abbrev pub with_last : Path → List Property → Resolved → Resolved
with_last p ps r = record { nodes = r.nodes ++ p ∷ []; properties = r.properties ++ defined_at p ps }
