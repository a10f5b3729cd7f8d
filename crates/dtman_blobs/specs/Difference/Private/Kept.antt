-- What a naming keeps of its tree: what each phandle names.
use Rattle.std.specs.Prelude.{◌≡◌, ℕ, List, Option}
use Rattle.dt_tree.specs.NodeData.{NodeData}
use Rattle.dt_tree.specs.Phandle.{or_else}
use Rattle.dtman_blobs.specs.Difference.Named.{NamedNode, own, named_among, named_by}

pub record IsNaming (root : NodeData) (named : ℕ → Option NamedNode) : Type 0 where
  pub all : (phandle : ℕ) → named phandle ≡ named_by root phandle

-- what a phandle names in a node at a path and below it
abbrev pub named_at : List ℕ → NodeData → ℕ → Option NamedNode
named_at path b phandle = or_else (own path b.properties phandle) (named_among path b.children phandle)

-- each phandle names what it named, or else what this says
abbrev pub IsNamedWith : (ℕ → Option NamedNode) → (ℕ → Option NamedNode) → (ℕ → Option NamedNode) → Type 0
IsNamedWith added old new = (phandle : ℕ) → new phandle ≡ or_else (old phandle) (added phandle)
