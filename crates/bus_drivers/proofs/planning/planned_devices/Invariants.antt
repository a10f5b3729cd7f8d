use Rattle.std.proofs.Common.{◌≡◌, Ok, drop}
use Rattle.bus_drivers.specs.Nodes.{target_of}
use Rattle.bus_drivers.specs.References.{followed_by}
use Rattle.bus_drivers.specs.TreePlan.{planned_from}
use Rattle.bus_drivers.proofs.planning.planned_devices.Given as goal

-- the devices so far, and then the plan of those that are left, are the plan of all
abbrev pub invariant-loop-place : goal.invariant-loop-place
invariant-loop-place l =
    followed_by (Ok l.planned.items) (planned_from (target_of l.phandle_index) l.matcher l.place (drop l.place l.device-items))
    ≡ planned_from (target_of l.phandle_index) l.matcher 0 l.device-items
