-- Where a source makes no tree whose edits are refused. Of the faults behind the edits it says nothing yet: names that are taken,
-- references in values, phandles and symbols; in dtc's language a label at two nodes, too.
use Rattle.std.specs.Prelude.{◌≡◌, ◌≢◌, Some, Result, Err, IfErr}
use Rattle.dt_source.specs.declared.tree.Source.{Source}
use Rattle.dt_source.specs.Meaning.{meaning_of}
use Rattle.dt_source.specs.TreeMeaning.Statements.{Fault, edited}
use Rattle.dt_source.specs.TreeMeaning.DtcEdits.{nothing}
use Rattle.dt_source.specs.TreeMeaning.DtcStatements.{dtc_items}
use Rattle.dt_build.specs.Edit.FaultPlaces.{edit_place}
use Rattle.dt_build.specs.Edit.DtcFaultPlaces.{dtc_edit_place}
use Rattle.dt_build.specs.declared.resolve.error.BuildError.{BuildError}
use Rattle.dt_build.specs.declared.resolve.error.BuildErrorKind.TheVariants.{NoMemory}

-- where the edits are refused, where the error stands is the place of their fault; want of memory has none
abbrev pub IsEditPlaced : {A : Type 0} → Source → Result A BuildError → Type 0
IsEditPlaced source result =
    IfErr result (λ e. e.kind ≢ NoMemory → (f : Fault) → edited (meaning_of source) ≡ Err f → Some e.at ≡ edit_place source)

-- the same in dtc's language, of what the items do
abbrev pub IsDtcEditPlaced : {A : Type 0} → Source → Result A BuildError → Type 0
IsDtcEditPlaced source result =
    let m = meaning_of source in
    IfErr result (λ e. e.kind ≢ NoMemory → (f : Fault) → dtc_items m.plugin m.items nothing ≡ Err f → Some e.at ≡ dtc_edit_place source)
