use Rattle.std.proofs.Common.{ap, ◌∙◌, sym}
use Rattle.bus_core.specs.History.{IsBusHistory}
use Rattle.bus_core.specs.Report.{status_of}
use Rattle.bus_manager.specs.Notes.{has_settled}
use Rattle.bus_manager.specs.Seen.{sees}
use Rattle.bus_manager.proofs.Forced.{history-forced, kept-history}
use Rattle.bus_manager.proofs.NotesLemmas.{noted-more}
use Rattle.bus_manager.proofs.Shown.{settled-told_all}
use Rattle.bus_manager.proofs.notes.settle_notes.Goals as goal

pub settle_note-requires-clause-forced : goal.settle_note-requires-clause-forced
settle_note-requires-clause-forced g c = λ _ _.
    history-forced c.args.plan.now c.args.keeper.now.state.history c.seen-seen.result
    (coe 0 1 (i. IsBusHistory (c.requires.plan i) c.args.keeper.now.state.history) (kept-history c.args.keeper.now c.check.ensures)) c.seen-seen.ensures

pub settle_note-requires-clause-suppliers : goal.settle_note-requires-clause-suppliers
settle_note-requires-clause-suppliers g c = λ _ _ settled.
    settled-told_all c.args.plan.now c.args.keeper.now.state (sees c.seen-seen.result) c.new-device.result
    (coe 0 1 (i. IsBusHistory (c.requires.plan i) c.args.keeper.now.state.history) (kept-history c.args.keeper.now c.check.ensures)) c.seen-seen.ensures
    (sym (c.has_settled-settled.ensures ∙ ap has_settled (c.status.ensures ∙ ap (λ p. status_of p c.core.result.now.state c.new-device.result) (c.core.ensures.plan ∙ c.requires.plan) ∙ ap (λ s. status_of c.args.plan.now s c.new-device.result) c.core.ensures.state)) ∙ settled)

pub loop-index-preserved : goal.loop-index-preserved
loop-index-preserved g c = record {
  notes_are = c.settle_note.ensures.notes;
  noted = noted-more (λ d. has_settled (status_of c.args.plan.now c.args.keeper.now.state d)) c.loop-index.notes.items c.settle_note.new.notes.items c.loop-index.index _ _ c.new-device.ensures
      (c.has_settled-settled.ensures ∙ ap has_settled (c.status.ensures ∙ ap (λ p. status_of p c.core.result.now.state c.new-device.result) (c.core.ensures.plan ∙ c.requires.plan) ∙ ap (λ s. status_of c.args.plan.now s c.new-device.result) c.core.ensures.state))
      c.loop-index.invariant.noted c.settle_note.ensures.noted;
}
