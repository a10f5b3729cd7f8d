use Rattle.std.proofs.Common.{◌≡◌, drop}
use Rattle.bus_plan.specs.Reach.Private.Given.{with_components}
use Rattle.bus_plan.proofs.reach.giving.give_those.Given as goal

abbrev pub invariant-loop-device : goal.invariant-loop-device
invariant-loop-device l =
    with_components l.stamps l.stamp l.component l.components (drop l.device-index l.devices) ≡ with_components l.stamps l.stamp l.component l.fn.components l.devices
