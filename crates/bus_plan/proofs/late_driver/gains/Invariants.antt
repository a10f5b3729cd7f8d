use Rattle.std.proofs.Common.{◌≡◌, map, take}
use Rattle.bus_plan.specs.Private.Late.{gain_of}
use Rattle.bus_plan.proofs.late_driver.gains.Given as goal

-- the devices so far have a copy of the name
abbrev pub invariant-loop-place : goal.invariant-loop-place
invariant-loop-place l = l.gains.items ≡ map (gain_of l.name) (take l.place-index l.devices)
