use Rattle.bus_manager.specs.Private.Flying.{IsFree}
use Rattle.bus_manager.specs.Private.Notes.{AreAttested}
use Rattle.bus_manager.proofs.flying.fly_on.Given as goal

abbrev pub invariant-loop-flight : goal.invariant-loop-flight
invariant-loop-flight g l = record {
  free : IsFree l.board l.own.seat;
  notes_are : AreAttested (g.P.Prober.attests l.prober l.plan) l.plan l.own.notes.items;
}
