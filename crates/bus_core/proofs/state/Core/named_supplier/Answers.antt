use Rattle.std.proofs.Common.{◌<◌, not, length, subst}
use Rattle.std.specs.Prelude.{IfSome}
use Rattle.bus_plan.specs.Plan.{suppliers_of}
use Rattle.bus_core.specs.CoreState.{CoreValue}
use Rattle.bus_core.specs.History.{bound_in}
use Rattle.bus_core.specs.Report.{missing_supplier}
use Rattle.bus_core.proofs.ReportLemmas.{find-all}
use Rattle.bus_core.proofs.state.Core.named_supplier.Goals as goal

pub returns-in-Waiting-clause-within : goal.returns-in-Waiting-clause-within
returns-in-Waiting-clause-within c =
    let P : CoreValue → Type 0 = λ core. IfSome (missing_supplier core.plan (bound_in core.state.history) c.args.device) (λ s. s < length core.plan)
    in let within : P c.args.self.now = subst P c.self.view_is
    (find-all (λ s. not (bound_in c.self.inside.history.items s)) (λ s. s < length c.self.inside.plan) (suppliers_of c.self.inside.plan c.args.device) (c.check.ensures.suppliers c.args.device))
    in rw c.missing_supplier.ensures within
