use Rattle.std.proofs.Common.{◌≡◌, ◌++◌, drop}
use Rattle.bus_plan.specs.Plan.{suppliers_of}
use Rattle.bus_picture.specs.Arrows.{supplier_arrows, planned_at}
use Rattle.bus_picture.proofs.arrows.add_suppliers.Given as goal

-- the arrows so far and those to the suppliers that are left are all
abbrev pub invariant-loop-place : goal.invariant-loop-place
invariant-loop-place l =
    l.arrows.items ++ supplier_arrows l.components l.consumer l.place (drop l.place (suppliers_of l.plan l.consumer))
    ≡ l.fn.arrows.items ++ planned_at l.plan l.components l.consumer
