use Rattle.std.proofs.Common.{◌≡◌, ◌≤◌, ◌-◌, length}
use Rattle.bus_manager.specs.Private.Alone.{most_begins, IsLanded}
use Rattle.bus_manager.specs.Private.Counts.{abandons}
use Rattle.bus_manager.specs.Private.Notes.{AreNotes}
use Rattle.bus_manager.proofs.alone.drain.Given as goal

abbrev pub invariant-driving : goal.invariant-driving
invariant-driving g l = record {
  plan_is : l.keeper.plan ≡ l.plan;
  landed : IsLanded l.keeper;
  few : abandons l.keeper ≤ length l.plan;
  notes_are : AreNotes (g.P.Prober.attests l.prober l.plan) l.plan l.notes.items;
}

abbrev pub decreases-driving : goal.decreases-driving
decreases-driving g l = most_begins - l.keeper.state.begins
