-- Which node a phandle names (Devicetree Specification v0.4, section 2.3.3): the first that has it, as a tree is read from its root on.
-- The root's children that overlays keep their symbols and fixups in (dt-object-internal), and all below them, have none.
use Rattle.std.specs.Prelude.{ℕ, nat_eq, if◌then◌else◌, List, [], ◌∷◌, ◌++◌, Option, Some, None, false}
use Rattle.std.specs.Option.{option_map_or}
use Rattle.dt_tree.specs.declared.property.Property.{Property}
use Rattle.dt_tree.specs.NodeData.{Siblings, none, more, NodeData}
use Rattle.dt_tree.specs.Phandle.{is_reserved_name, or_else, phandle_of}

-- a node that is named: its path, each name behind a slash, and its properties
pub record NamedNode : Type 0 where
  pub path : List ℕ
  pub properties : List Property

-- the node with these properties, where the phandle is its own
abbrev pub own : List ℕ → List Property → ℕ → Option NamedNode
own path p phandle = if option_map_or (nat_eq phandle) (phandle_of p) false then Some (record { path = path; properties = p }) else None

-- the first of nodes side by side, each before those below it; the node above them is at this path
abbrev pub named_among : List ℕ → Siblings → ℕ → Option NamedNode
named_among path none phandle = None
named_among path (more n p kids rest) phandle =
    or_else (or_else (own (path ++ 47 ∷ n) p phandle) (named_among (path ++ 47 ∷ n) kids phandle)) (named_among path rest phandle)

-- the nodes side by side but for those of overlays
abbrev pub boards_own : Siblings → Siblings
boards_own none = none
boards_own (more n p kids rest) = if is_reserved_name n then boards_own rest else more n p kids (boards_own rest)

-- what a phandle names in the tree with this root
abbrev pub named_by : NodeData → ℕ → Option NamedNode
named_by root phandle = or_else (own [] root.properties phandle) (named_among [] (boards_own root.children) phandle)
