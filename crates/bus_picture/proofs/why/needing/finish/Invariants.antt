use Rattle.std.proofs.Common.{ℕ}
use Rattle.bus_picture.specs.Why.Private.Walk.{IsSoundWalk, IsWalkFrom, steps_left}
use Rattle.bus_picture.proofs.why.needing.finish.Given as goal

abbrev pub invariant-walking : goal.invariant-walking
invariant-walking l = record {
  sound : IsSoundWalk l.plan l.walk;
  from : (device : ℕ) → IsWalkFrom l.plan device l.initial.walk → IsWalkFrom l.plan device l.walk;
}

abbrev pub decreases-walking : goal.decreases-walking
decreases-walking l = steps_left l.plan l.walk
