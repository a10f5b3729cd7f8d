use Rattle.std.proofs.Common.{◌≡◌, ◌++◌, take}
use Rattle.bus_plan.specs.PlanText.{lines_text}
use Rattle.bus_plan.proofs.writing.write_devices.Given as goal

-- the devices so far are written
abbrev pub invariant-loop-index : goal.invariant-loop-index
invariant-loop-index l = l.text.items ≡ l.initial.text.items ++ lines_text l.plan (take l.index l.plan)
