use Rattle.std.proofs.Common.{◌<◌, not, length}
use Rattle.bus_plan.specs.Plan.{suppliers_of}
use Rattle.bus_core.proofs.ReportLemmas.{find-all}
use Rattle.bus_manager.specs.Private.BoardEnd.{bound_by_words}
use Rattle.bus_manager.proofs.end_report.named_supplier.Goals as goal

pub returns-in-Waiting-clause-within : goal.returns-in-Waiting-clause-within
returns-in-Waiting-clause-within c =
    rw c.missing_supplier.ensures
    (find-all (λ s. not (bound_by_words c.args.words.now s)) (λ s. s < length c.args.plan.now) (suppliers_of c.args.plan.now c.args.device) (c.check.ensures.suppliers c.args.device))
