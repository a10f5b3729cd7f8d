use Rattle.std.proofs.Common.{◌≡◌, true, not, ap, ap₂, sym, ◌∙◌}
use Rattle.std.proofs.lemmas.Bool.{and_parts}
use Rattle.bus_core.specs.Report.{end_status}
use Rattle.bus_manager.specs.Private.BoardEnd.{bound_by_words}
use Rattle.bus_manager.specs.Notes.{leaves_note, has_settled}
use Rattle.bus_manager.specs.Seen.{sees}
use Rattle.bus_manager.proofs.Forced.{least-forced}
use Rattle.bus_manager.proofs.NotesLemmas.{noted-more}
use Rattle.bus_manager.proofs.Shown.{ended-told_all}
use Rattle.bus_manager.proofs.boarded.settle_by_words.Goals as goal

pub settle_note-requires-clause-forced : goal.settle_note-requires-clause-forced
settle_note-requires-clause-forced g c = λ _ _. least-forced c.args.plan.now (bound_by_words c.args.words.now) c.bound_devices-seen.result c.requires.least c.bound_devices-seen.ensures

pub settle_note-requires-clause-suppliers : goal.settle_note-requires-clause-suppliers
settle_note-requires-clause-suppliers g c = λ _ _ settled.
    let bound = bound_by_words c.args.words.now
    in let said : leaves_note c.contains.result (end_status c.args.plan.now bound c.new-device.result) ≡ true = sym (c.leaves_note-settled.ensures ∙ ap (leaves_note c.contains.result) c.end_status-status.ensures) ∙ settled
    in let ended = (and_parts (not c.contains.result) (has_settled (end_status c.args.plan.now bound c.new-device.result)) said).1
    in ended-told_all c.args.plan.now bound (sees c.bound_devices-seen.result) c.new-device.result c.requires.least c.bound_devices-seen.ensures ended

pub loop-index-preserved : goal.loop-index-preserved
loop-index-preserved g c = record {
  notes_are = c.settle_note.ensures.notes;
  noted = noted-more (λ d. leaves_note (sees c.args.before.now d) (end_status c.args.plan.now (bound_by_words c.args.words.now) d)) c.loop-index.notes.items c.settle_note.new.notes.items c.loop-index.index c.new-device.result _ c.new-device.ensures
      (c.leaves_note-settled.ensures ∙ ap₂ leaves_note c.contains.ensures c.end_status-status.ensures) c.loop-index.invariant.noted c.settle_note.ensures.noted;
}
