use Rattle.std.proofs.Common.{◌≡◌, take}
use Rattle.bus_plan.specs.Plan.{paths}
use Rattle.bus_plan.proofs.paths.PathIndex.of.Given as goal

-- the paths of the devices so far
abbrev pub invariant-loop-device : goal.invariant-loop-device
invariant-loop-device l = l.index ≡ paths (take l.device-index l.devices)
