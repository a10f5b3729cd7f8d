use Rattle.std.proofs.Common.{◌≡◌, ◌++◌, take}
use Rattle.bus_plan.specs.PlanText.{strings_lines}
use Rattle.bus_plan.proofs.writing.write_all_compatibles.Given as goal

-- the strings of the devices so far are written
abbrev pub invariant-loop-index : goal.invariant-loop-index
invariant-loop-index l = l.text.items ≡ l.initial.text.items ++ strings_lines (take l.index l.plan)
