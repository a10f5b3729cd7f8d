use Rattle.bus_plan.specs.Reach.Private.Given.{AreGiven, AreStampsTo}
use Rattle.bus_plan.proofs.reach.giving.give_all.Given as goal

abbrev pub invariant-loop-place : goal.invariant-loop-place
invariant-loop-place l = record {
  given : AreGiven l.plan l.components l.place;
  ahead : AreStampsTo l.place l.plan l.ahead.items;
  behind : AreStampsTo l.place l.plan l.behind.items;
}
