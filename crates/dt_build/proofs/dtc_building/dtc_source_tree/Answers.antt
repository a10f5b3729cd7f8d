use Rattle.dt_source.specs.Meaning.{meaning_of}
use Rattle.dt_build.specs.Edit.DtcFaultPlaces.{dtc_edit_place}
use Rattle.dt_build.proofs.DtcSteps.{edits-refused}
use Rattle.dt_build.proofs.ResolveLemmas.BuildPlaces.{behind-dtc-edits, edit-told}
use Rattle.dt_build.proofs.dtc_building.dtc_source_tree.Goals as goal

pub standing_tree-requires-clause-stands : goal.standing_tree-requires-clause-stands
standing_tree-requires-clause-stands c =
    let read = c.in-Ok.ensures.all in
    record { tree = read.0; edited = read.1; stands = read.2 }

pub returns-in-Err-clause-tree : goal.returns-in-Err-clause-tree
returns-in-Err-clause-tree c =
    edits-refused c.args.symbols (meaning_of c.args.source.now) c.in-Err.error.kind c.from.result.kind c.from.ensures.0 c.in-Err.ensures.all

-- ---- where an item is refused
pub returns-in-Ok-clause-at : goal.returns-in-Ok-clause-at
returns-in-Ok-clause-at c =
    let read = c.in-Ok.ensures.all in
    behind-dtc-edits c.args.source.now c.standing_tree.result read.0 read.1

pub returns-in-Err-clause-at : goal.returns-in-Err-clause-at
returns-in-Err-clause-at c some f refused =
    edit-told c.in-Err.error c.from.result (dtc_edit_place c.args.source.now) c.from.ensures (λ told. c.in-Err.ensures.at told f refused) some
