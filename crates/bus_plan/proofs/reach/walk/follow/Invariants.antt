use Rattle.std.proofs.Common.{◌≡◌, ◌+◌, ◌-◌, ◌≤◌, length, get_or}
use Rattle.bus_plan.specs.Reach.Private.Walk.{AreStamped, OnlyStamps, IsUnderway, unstamped}
use Rattle.bus_plan.proofs.reach.walk.follow.Given as goal

abbrev pub invariant-walking : goal.invariant-walking
invariant-walking l = record {
  class : l.class ≡ get_or l.classes l.fn.root 0;
  underway : IsUnderway l.direction l.plan l.classes l.fn.root l.found.items l.at;
  at : l.at ≤ length l.found.items;
  stamped : AreStamped l.stamp l.stamps l.found.items;
  only : OnlyStamps l.stamp l.fn.stamps l.stamps;
  left : unstamped l.stamp l.stamps + length l.found.items ≡ unstamped l.stamp l.fn.stamps;
}

abbrev pub decreases-walking : goal.decreases-walking
decreases-walking l = (unstamped l.stamp l.stamps + length l.found.items) - l.at
