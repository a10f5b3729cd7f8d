-- One tree at most is held: what the plan was made of is it.
use Rattle.std.proofs.Common.{◌≡◌, ◌⊎◌, inl, inr, subst, Ok, Err}
use Rattle.dt_tree.specs.TreeData.{TreeData}
use Rattle.bus_plan.specs.declared.error.PlanError.TheVariants.{NoMemory}
use Rattle.dtman_engine.specs.Fault.{fault_value}
use Rattle.dtman_engine.specs.Plan.{planning}
use Rattle.dtman_engine.specs.declared.culprit.BlobRole.TheVariants.{Sole}
use Rattle.dtman_engine.proofs.CulpritLemmas.{of-held}
use Rattle.dtman_engine.proofs.planning.planned.Goals as goal

pub returns-in-Ok-clause-header : goal.returns-in-Ok-clause-header
returns-in-Ok-clause-header c = λ e is. elim (c.in_ok-tree.ensures.header e is) [ ]

pub returns-in-Ok-clause-held : goal.returns-in-Ok-clause-held
returns-in-Ok-clause-held c =
    λ tree held.
    subst (λ (t : TreeData). planning t c.args.drivers.now ≡ Ok c.in-Ok.plan) (c.in_ok-tree.ensures.only tree held) c.in-Ok.ensures
