-- What a tree of dtc's language leaves when all is read.
use Rattle.std.specs.Prelude.{◌≡◌, Result, Ok, MatchResult}
use Rattle.dt_source.specs.TreeMeaning.DtcEdits.{DtcTree}
use Rattle.dt_source.specs.TreeMeaning.DtcStatements.{with_labels_once}
use Rattle.dt_build.specs.declared.edit.error.EditError.{EditError}
use Rattle.dt_build.specs.declared.edit.standing.Standing.{Standing}
use Rattle.dt_build.specs.Edit.EditFault.{IsFault}
use Rattle.dt_build.specs.Edit.Standing.{IsStandingOf}

-- all that stands, unless a label stands at two nodes
abbrev pub Leaves : DtcTree → Result Standing EditError → Type 0
Leaves t result = MatchResult result (λ s. (with_labels_once t ≡ Ok t) × IsStandingOf s t) (λ e. IsFault e.kind (with_labels_once t))
