-- The phandles of nodes, by the nodes' rows (Devicetree Specification v0.4, section 2.3.3).
use Rattle.std.specs.Prelude.{◌≡◌, ℕ, ◌==◌, List, [], ◌∷◌, Option, Some, None, if◌then◌else◌, slice_index_or}
use Rattle.std.specs.Int.{to_be_bytes, w32}
use Rattle.dt_source.specs.TreeMeaning.Fixups.{phandle_of}
use Rattle.dt_live.specs.Rows.{node_path}
use Rattle.dt_build.specs.declared.draft.Draft.{Draft}
use Rattle.dt_build.specs.Private.Made.{all_phandles}
use Rattle.dt_build.specs.declared.resolve.node_phandles.NodePhandle.{NodePhandle}

-- the first phandle that a list has for a node, or d where it has none
abbrev pub first_phandle : List NodePhandle → ℕ → ℕ → ℕ
first_phandle [] n d = d
first_phandle (x ∷ xs) n d = if n == x.node then x.phandle else first_phandle xs n d

-- each node has its first phandle of a list, else the one that it had
abbrev pub PutsPhandles : List NodePhandle → List ℕ → List ℕ → Type 0
PutsPhandles list old new = (n : ℕ) → slice_index_or new n 0 ≡ first_phandle list n (slice_index_or old n 0)

-- the number of a node, that which is no phandle where it has none
abbrev pub number_of : Draft → ℕ → ℕ
number_of p k = first_phandle p.given.items k (first_phandle p.new.items k 4294967295)

-- it is that of the node's path
abbrev pub IsOfPath : Draft → ℕ → Type 0
IsOfPath p k = to_be_bytes w32 (number_of p k) ≡ to_be_bytes w32 (phandle_of (all_phandles p) (node_path p.live k))

abbrev pub IsByPath : Draft → Option ℕ → Type 0
IsByPath p None = Unit {0}
IsByPath p (Some k) = IsOfPath p k
