use Rattle.std.proofs.Common.{◌≡◌, take}
use Rattle.bus_plan.proofs.plan.copies.Given as goal

-- the devices so far
abbrev pub invariant-loop-device : goal.invariant-loop-device
invariant-loop-device l = l.copies.items ≡ take l.device-index l.devices
