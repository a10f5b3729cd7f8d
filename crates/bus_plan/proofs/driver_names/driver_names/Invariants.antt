use Rattle.std.proofs.Common.{take}
use Rattle.bus_plan.specs.Private.Indexed.{AreDrivers}
use Rattle.bus_plan.proofs.driver_names.driver_names.Given as goal

-- the names are those of the devices so far
abbrev pub invariant-loop-device : goal.invariant-loop-device
invariant-loop-device l = AreDrivers (take l.device-index l.devices) l.names
