-- When all is read.
use Rattle.std.proofs.Common.{◌≡◌, false, true, Result, Ok, Err, if◌then◌else◌, ap, ◌∙◌}
use Rattle.dt_tree.specs.Steps.{then_do}
use Rattle.dt_source.specs.TreeMeaning.Syntax.{Meaning}
use Rattle.dt_source.specs.TreeMeaning.Statements.{DuplicateLabel, Fault}
use Rattle.dt_source.specs.TreeMeaning.Places.{what_stands}
use Rattle.dt_source.specs.TreeMeaning.DtcEdits.{DtcTree, nothing}
use Rattle.dt_source.specs.TreeMeaning.DtcStatements.{dtc_edited, dtc_items, label_twice, with_labels_once}
use Rattle.dt_build.specs.declared.edit.error.EditError.{EditError}
use Rattle.dt_build.specs.declared.edit.error.EditErrorKind.{EditErrorKind}
use Rattle.dt_build.specs.declared.edit.standing.Standing.{Standing}
use Rattle.dt_build.specs.Edit.EditFault.{IsFault}
use Rattle.dt_build.specs.Edit.Private.AllRead.{Leaves}
use Rattle.dt_build.specs.Edit.Standing.{Edits}
use Rattle.dt_build.proofs.EditLemmas.Faults.{fault-same, fault-then}

pub labels-once : (t : DtcTree) → label_twice (what_stands t.labels) ≡ false → with_labels_once t ≡ Ok t
labels-once t e = ap (λ b. if b then Err DuplicateLabel else Ok t) e

pub labels-twice : (t : DtcTree) → label_twice (what_stands t.labels) ≡ true → with_labels_once t ≡ Err DuplicateLabel
labels-twice t e = ap (λ b. if b then Err DuplicateLabel else Ok t) e

module _ (m : Meaning) where
  abbrev done : Result DtcTree Fault
  done = dtc_items m.plugin m.items nothing

  pub edits-then : (t : DtcTree) (r : Result Standing EditError) → done ≡ Ok t → Leaves t r → Edits m r
  edits-then t (Ok s) e h = (t, ap (λ x. then_do x with_labels_once) e ∙ h.0, h.1)
  edits-then t (Err x) e h = fault-same x.kind (with_labels_once t) (dtc_edited m) (ap (λ x. then_do x with_labels_once) e) h

  pub edits-refused : (x : EditErrorKind) → IsFault x done → IsFault x (dtc_edited m)
  edits-refused x h = fault-then x done with_labels_once h
