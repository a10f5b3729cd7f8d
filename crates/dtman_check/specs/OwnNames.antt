-- A tree without the properties that repeat the names of their nodes (Devicetree Specification v0.4, section 2.3, `name`; that dtc
-- leaves them out was tried by hand).
use Rattle.std.specs.Prelude.{ℕ, Bool, not, ◌&&◌, List, [], ◌∷◌, ◌++◌, codes}
use Rattle.std.specs.List.{filter}
use Rattle.std.specs.Str.{bytes_eq}
use Rattle.dt_tree.specs.declared.property.Property.{Property}
use Rattle.dt_tree.specs.NodeData.{Siblings, none, more, NodeData, node_data}
use Rattle.dt_tree.specs.TreeData.{TreeData}
use Rattle.dt_check.specs.Unit.{base_name}

-- what a node is called up to its unit address, as a string
abbrev pub called : List ℕ → List ℕ
called name = base_name name ++ 0 ∷ []

-- a node's property `name` that says it
abbrev pub repeats : List ℕ → Property → Bool
repeats name p = bytes_eq p.name (codes "name") && bytes_eq p.value (called name)

-- a node's properties without it
abbrev pub once : List ℕ → List Property → List Property
once name ps = filter (λ p. not (repeats name p)) ps

-- and so at every level
abbrev pub once_below : Siblings → Siblings
once_below none = none
once_below (more n p c rest) = more n (once n p) (once_below c) (once_below rest)

abbrev pub once_node : NodeData → NodeData
once_node b = node_data b.name (once b.name b.properties) (once_below b.children)

abbrev pub once_tree : TreeData → TreeData
once_tree tree = record tree { root = once_node tree.root }
