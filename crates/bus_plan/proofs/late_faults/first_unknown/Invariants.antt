use Rattle.std.proofs.Common.{◌≡◌, drop}
use Rattle.bus_plan.specs.Private.Reading.{first_unknown}
use Rattle.bus_plan.proofs.late_faults.first_unknown.Given as goal

-- the lines so far have no such supplier
abbrev pub invariant-loop-device : goal.invariant-loop-device
invariant-loop-device l = first_unknown l.index l.devices ≡ first_unknown l.index (drop l.device-index l.devices)
