-- What a tree of dtc's language leaves when all is read (Devicetree Specification v0.4, sections 6.3 and 6.4; where it is silent,
-- dtc 1.6.1, tried by hand).
use Rattle.std.specs.Prelude.{◌≡◌, ◌+◌, ℕ, Bool, true, false, List, length, slice_index_or, Result, Ok, MatchResult}
use Rattle.dt_source.specs.TreeMeaning.Paths.{Path, is_listed}
use Rattle.dt_source.specs.TreeMeaning.Syntax.{Meaning}
use Rattle.dt_source.specs.TreeMeaning.Edits.{counted}
use Rattle.dt_source.specs.TreeMeaning.BootProcessor.{boot_processor}
use Rattle.dt_source.specs.TreeMeaning.DtcEdits.{DtcTree, ever_labelled}
use Rattle.dt_source.specs.TreeMeaning.DtcStatements.{dtc_edited, dtc_state}
use Rattle.dt_live.specs.declared.live_tree.LiveTree.{LiveTree}
use Rattle.dt_live.specs.Rows.{IsLiveTree, IsNode, is_standing, node_path}
use Rattle.dt_build.specs.declared.edit.error.EditError.{EditError}
use Rattle.dt_build.specs.declared.edit.standing.Standing.{Standing}
use Rattle.dt_build.specs.Edit.EditFault.{IsFault}
use Rattle.dt_build.specs.Edit.Said.{Parts, tree_of}

-- each node that stands, the root among them, is marked if its path passes
pub record AreNodeMarks (test : Path → Bool) (d : LiveTree Parts) (xs : List Bool) : Type 0 where
  pub count : length xs ≡ length d.nodes.items + 1
  pub marks : (n : ℕ) → IsNode d n → is_standing d n ≡ true → slice_index_or xs n false ≡ test (node_path d n)

-- it is what a tree of dtc's language leaves
pub record IsStandingOf (s : Standing) (t : DtcTree) : Type 0 where
  pub sound : IsLiveTree s.live
  pub tree : dtc_state t ≡ counted t.fragments (tree_of s.live)
  pub marked : AreNodeMarks (λ p. is_listed p t.marked) s.live s.marked.items
  pub labelled : AreNodeMarks (ever_labelled t) s.live s.labelled.items
  pub boot : s.boot_processor ≡ boot_processor t

-- what stands when a source is read, or the first fault
abbrev pub Edits : Meaning → Result Standing EditError → Type 0
Edits m result = MatchResult result (λ s. (t : DtcTree) × (dtc_edited m ≡ Ok t) × IsStandingOf s t) (λ e. IsFault e.kind (dtc_edited m))
