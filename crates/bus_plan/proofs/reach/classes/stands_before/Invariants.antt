use Rattle.std.proofs.Common.{◌≡◌, nat_le, drop, get_or}
use Rattle.std.specs.List.{list_all}
use Rattle.bus_plan.proofs.reach.classes.stands_before.Given as goal

abbrev pub invariant-loop-device : goal.invariant-loop-device
invariant-loop-device l =
    list_all (λ d. nat_le l.class (get_or l.classes d 0)) (drop l.device-index l.devices) ≡ list_all (λ d. nat_le l.class (get_or l.classes d 0)) l.devices
