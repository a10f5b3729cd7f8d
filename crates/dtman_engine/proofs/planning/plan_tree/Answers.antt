-- The plan is that of the drivers that the file says.
use Rattle.std.proofs.Common.{◌≡◌, ◌⊎◌, Result, Ok, Err, sym, subst, rules}
use Rattle.bus_plan.specs.PlanFile.{Answers}
use Rattle.bus_plan.specs.declared.error.PlanError.{PlanError}
use Rattle.bus_plan.specs.declared.error.PlanError.TheVariants.{NoMemory}
use Rattle.bus_drivers.specs.Driver.{DriverSetData}
use Rattle.bus_drivers.specs.DriverFile.{reading}
use Rattle.dtman_engine.specs.Plan.{after_drivers}
use Rattle.dtman_engine.proofs.planning.plan_tree.Goals as goal

pub returns : goal.returns
returns c =
    let read : reading c.args.drivers.now ≡ Ok c.in_ok-drivers.drivers = c.in_ok-drivers.ensures in
    subst (λ (r : Result DriverSetData PlanError). Answers (after_drivers c.args.tree.now.root r) c.plan.result)
    (sym read) c.plan.ensures

pub returns-in_err-drivers : goal.returns-in_err-drivers
returns-in_err-drivers c =
    let e = c.in_err-drivers.field-0.0 in
    let refused : (e ≡ NoMemory) ⊎ (reading c.args.drivers.now ≡ Err e) = c.in_err-drivers.ensures in
    search rules
