use Rattle.bus_plan.specs.Reach.Private.Classes.{AreInOrderBelow}
use Rattle.bus_plan.proofs.reach.classes.are_classes.Given as goal

abbrev pub invariant-loop-place : goal.invariant-loop-place
invariant-loop-place l = AreInOrderBelow l.place l.plan l.classes
