-- How many bytes the values of a tree have together.
use Rattle.std.specs.Prelude.{◌+◌, ℕ, List, [], ◌∷◌, length}
use Rattle.dt_tree.specs.declared.property.Property.{Property}
use Rattle.dt_tree.specs.NodeData.{Siblings, none, more, NodeData}
use Rattle.dt_source.specs.TreeMeaning.Edits.{Definition}

-- those of a list
abbrev pub size_in : List (Definition (List ℕ)) → ℕ
size_in [] = 0
size_in (e ∷ es) = length e.value + size_in es

-- the same of the nodes of a tree
abbrev pub size_of : List Property → ℕ
size_of [] = 0
size_of (x ∷ xs) = length x.value + size_of xs

abbrev pub size_among : Siblings → ℕ
size_among none = 0
size_among (more n p c rest) = size_of p + (size_among c + size_among rest)

abbrev pub size_below : NodeData → ℕ
size_below b = size_of b.properties + size_among b.children
