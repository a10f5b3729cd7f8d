use Rattle.bus_manager.specs.Private.Notes.{AreAttested}
use Rattle.bus_manager.proofs.worker.fly_on.Given as goal

abbrev pub invariant-loop : goal.invariant-loop
invariant-loop g l = AreAttested (g.P.Prober.attests l.prober l.plan) l.plan l.notes.items
