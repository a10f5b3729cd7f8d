-- What lists of targets stand for (Devicetree Specification v0.4, section 6.3).
use Rattle.std.specs.Prelude.{◌≡◌, ◌==◌, ℕ, true, List, [], ◌∷◌, map, Option, Some, None, option_map}
use Rattle.std.specs.List.{flat_map}
use Rattle.dt_source.specs.TreeMeaning.Paths.{Path, same_path}
use Rattle.dt_source.specs.TreeMeaning.Edits.{Definition}
use Rattle.dt_source.specs.TreeMeaning.References.{Found, Bytes, Cell, Open, PathText}
use Rattle.dt_source.specs.TreeMeaning.Phandles.{named_in_cells}
use Rattle.dt_live.specs.declared.live_tree.LiveTree.{LiveTree}
use Rattle.dt_live.specs.Rows.{IsNode, is_standing, node_path}
use Rattle.dt_build.specs.Edit.Said.{Parts}
use Rattle.dt_build.specs.declared.resolve.references.Targets.{Targets}

-- the node that a reference names, none where no node has its label
abbrev pub target_path : Found → List (Option Path)
target_path (Bytes b) = []
target_path (Cell p) = Some p ∷ []
target_path (Open l) = None ∷ []
target_path (PathText p) = Some p ∷ []

-- the nodes that all references name, and those named in cells
pub record AreFound (d : LiveTree Parts) (es : List (Definition (List Found))) (t : Targets) : Type 0 where
  pub all : map (option_map (node_path d)) t.all.items ≡ flat_map (λ e. flat_map target_path e.value) es
  pub cells : map (node_path d) t.cells.items ≡ named_in_cells es

-- a target is a node of the tree, where there is one
abbrev pub IsKnown : LiveTree Parts → Option ℕ → Type 0
IsKnown d None = Unit {0}
IsKnown d (Some n) = IsNode d n

abbrev pub IsThere : LiveTree Parts → Option ℕ → Type 0
IsThere d None = Unit {0}
IsThere d (Some n) = is_standing d n ≡ true

-- a target is a node itself where it has its path, and else another
abbrev pub IsToldApart : LiveTree Parts → ℕ → Option ℕ → Type 0
IsToldApart d n None = Unit {0}
IsToldApart d n (Some m) = (m == n) ≡ same_path (node_path d n) (node_path d m)
