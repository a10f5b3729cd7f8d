use Rattle.std.proofs.Common.{◌≡◌, ◌<◌, ℕ}
use Rattle.bus_core.specs.Report.{end_status}
use Rattle.bus_manager.specs.Private.BoardEnd.{bound_by_words}
use Rattle.bus_manager.specs.Notes.{leaves_note, has_note}
use Rattle.bus_manager.specs.Seen.{sees}
use Rattle.bus_manager.specs.Private.Notes.{AreNotes}
use Rattle.bus_manager.proofs.boarded.settle_by_words.Given as goal

abbrev pub invariant-loop-index : goal.invariant-loop-index
invariant-loop-index g l = record {
  notes_are : AreNotes (g.P.Prober.attests l.prober l.plan) l.plan l.notes.items;
  noted : (d : ℕ) → d < l.index → has_note l.notes.items d ≡ leaves_note (sees l.before d) (end_status l.plan (bound_by_words l.words) d);
}
