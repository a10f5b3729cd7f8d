use Rattle.std.proofs.Common.{◌≡◌, ◌++◌, map, take}
use Rattle.bus_plan.specs.Plan.{path_of}
use Rattle.bus_plan.specs.PlanText.{spaced}
use Rattle.bus_plan.proofs.writing.write_suppliers.Given as goal

-- the suppliers so far are written
abbrev pub invariant-loop-supplier : goal.invariant-loop-supplier
invariant-loop-supplier l = l.text.items ≡ l.initial.text.items ++ spaced (map (path_of l.plan) (take l.supplier-index l.suppliers))
