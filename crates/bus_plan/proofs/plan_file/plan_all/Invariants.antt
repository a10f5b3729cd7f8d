use Rattle.std.specs.Vec.Iter.{into_iter_items}
use Rattle.bus_plan.proofs.PlanLemmas.{IsPlannedTo}
use Rattle.bus_plan.proofs.plan_file.plan_all.Given as goal

-- the lines so far are planned
abbrev pub invariant-loop-line : goal.invariant-loop-line
invariant-loop-line l =
    (goal.iterator-loop-line).can_next l.line-iterator ×
    (goal.iterator-loop-line).is_finite l.line-iterator ×
    IsPlannedTo l.index l.lists l.fn.lines.items (into_iter_items l.line-iterator) l.devices.items
