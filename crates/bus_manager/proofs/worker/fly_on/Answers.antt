use Rattle.std.proofs.Common.{arith}
use Rattle.bus_manager.specs.Private.Locked.{IsFlightOf}
use Rattle.bus_manager.proofs.worker.fly_on.Goals as goal

pub returns-then-joined-clause-room : goal.returns-then-joined-clause-room
returns-then-joined-clause-room g c =
    (coe 1 0 (i. IsFlightOf (c.requires.plan i) c.in-Some-take.flight) c.in-Some-take.ensures.flight, omega (arith, c.in-Ok.ensures.ok))

pub fly-requires-clause-flight : goal.fly-requires-clause-flight
fly-requires-clause-flight g c = λ _ _. coe 1 0 (i. IsFlightOf (c.requires.plan i) c.in-Some-take.flight) c.in-Some-take.ensures.flight
