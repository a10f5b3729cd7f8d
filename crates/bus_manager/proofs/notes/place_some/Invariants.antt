use Rattle.std.proofs.Common.{vec_len}
use Rattle.bus_manager.specs.Private.Notes.{AreAttested, AreNotes}
use Rattle.bus_manager.proofs.notes.place_some.Given as goal

abbrev pub invariant-placing : goal.invariant-placing
invariant-placing g l = record {
  notes_are : AreNotes (g.P.Prober.attests l.prober l.plan) l.plan l.notes.items;
  found_are : AreAttested (g.P.Prober.attests l.prober l.plan) l.plan l.found.items;
}

abbrev pub decreases-placing : goal.decreases-placing
decreases-placing g l = vec_len l.found
