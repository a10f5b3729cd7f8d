use Rattle.std.proofs.Common.{◌≡◌, ◌<◌, ℕ}
use Rattle.bus_core.specs.Report.{status_of}
use Rattle.bus_manager.specs.Notes.{has_settled, has_note}
use Rattle.bus_manager.specs.Private.Notes.{AreNotes}
use Rattle.bus_manager.proofs.notes.settle_notes.Given as goal

abbrev pub invariant-loop-index : goal.invariant-loop-index
invariant-loop-index g l = record {
  notes_are : AreNotes (g.P.Prober.attests l.prober l.plan) l.plan l.notes.items;
  noted : (d : ℕ) → d < l.index → has_note l.notes.items d ≡ has_settled (status_of l.plan l.keeper.state d);
}
