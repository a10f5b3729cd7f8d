use Rattle.std.proofs.Common.{Err, ap}
use Rattle.dt_source.specs.TreeMeaning.DtcStatements.{with_labels_once}
use Rattle.dt_build.specs.Edit.Said.{pieces}
use Rattle.dt_build.specs.Edit.Private.DtcEdited.{placed_of}
use Rattle.dt_build.proofs.EditLemmas.AllRead.{labels-once, labels-twice}
use Rattle.dt_build.proofs.EditLemmas.Faults.{fault-error, stand-says}
use Rattle.dt_build.proofs.edit.standing.standing_of.Goals as goal

pub returns-in_ok-boot_processor-in-Ok : goal.returns-in_ok-boot_processor-in-Ok
returns-in_ok-boot_processor-in-Ok c =
    let e = c.in-Ok.ensures in
    let marked = c.in_ok-marked-in-Ok.ensures pieces in
    let labelled = c.in_ok-labelled-in-Ok.ensures pieces in (
      labels-once (placed_of c.args.placed.now) e.once,
      record {
        sound = e.shown.numbered.sound;
        tree = e.tree pieces;
        marked = record { count = marked.count; marks = marked.marks };
        labelled = record { count = labelled.count; marks = labelled.marks };
        boot = c.in_ok-boot_processor-in-Ok.ensures;
      },
    )

pub returns-in-Err : goal.returns-in-Err
returns-in-Err c =
    let t = placed_of c.args.placed.now in
    fault-error _ _ (with_labels_once t) c.of_stand.ensures
    (stand-says c.in-Err.error (with_labels_once t) (λ at is. labels-twice t (c.in-Err.ensures.refused at (ap Err is))))
