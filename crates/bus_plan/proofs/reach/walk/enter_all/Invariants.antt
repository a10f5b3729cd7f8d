use Rattle.std.proofs.Common.{◌≡◌, ◌+◌, length, drop}
use Rattle.bus_plan.specs.Reach.Private.Walk.{with_devices, AreStamped, OnlyStamps, unstamped}
use Rattle.bus_plan.proofs.reach.walk.enter_all.Given as goal

-- with the devices that are left the walk has found what it finds with all
abbrev pub invariant-loop-device : goal.invariant-loop-device
invariant-loop-device l = record {
  found : with_devices l.classes l.class l.found.items (drop l.device-index l.devices) ≡ with_devices l.classes l.class l.fn.found.items l.devices;
  stamped : AreStamped l.stamp l.stamps l.found.items;
  only : OnlyStamps l.stamp l.fn.stamps l.stamps;
  left : unstamped l.stamp l.stamps + length l.found.items ≡ unstamped l.stamp l.fn.stamps + length l.fn.found.items;
}
