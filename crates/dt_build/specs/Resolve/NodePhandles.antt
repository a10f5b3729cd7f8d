-- Phandles of nodes, by the nodes' rows (Devicetree Specification v0.4, section 2.3.3).
use Rattle.std.specs.Prelude.{◌≡◌, ◌≤◌, ℕ, Bool, true, false, List, length, slice_index_or, All}
use Rattle.dt_source.specs.TreeMeaning.Phandles.{PathPhandle, path_phandle}
use Rattle.dt_live.specs.declared.live_tree.NodeRow.{NodeRow}
use Rattle.dt_live.specs.Rows.{path_of, stands}
use Rattle.dt_build.specs.declared.resolve.node_phandles.NodePhandle.{NodePhandle}

abbrev pub path_phandle_of : List NodeRow → NodePhandle → PathPhandle
path_phandle_of rows x = path_phandle (path_of rows x.node) x.phandle

-- each is the phandle of a node of the tree
pub record AreStanding (rows : List NodeRow) (xs : List NodePhandle) : Type 0 where
  pub known : All (λ x. x.node ≤ length rows) xs
  pub stand : All (λ x. stands rows x.node ≡ true) xs

-- the nodes that pass are marked
abbrev pub AreMarks : (ℕ → Bool) → List Bool → Type 0
AreMarks test marks = (n : ℕ) → slice_index_or marks n false ≡ test n
