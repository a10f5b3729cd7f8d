use Rattle.std.proofs.Common.{◌≡◌, ◌++◌, drop}
use Rattle.bus_links.specs.LinkPlan.{planned_by}
use Rattle.bus_links.specs.Private.Counting.{passes}
use Rattle.bus_links.proofs.relaxing.planned_devices.Given as goal

-- the devices so far and those that are left are all
abbrev pub invariant-loop-own : goal.invariant-loop-own
invariant-loop-own l =
    l.planned.items ++ planned_by l.matcher (passes l.early l.counting) l.parents l.links l.own (drop l.own l.devices)
    ≡ planned_by l.matcher (passes l.early l.counting) l.parents l.links 0 l.devices
