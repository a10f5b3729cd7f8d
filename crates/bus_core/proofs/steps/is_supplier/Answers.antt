use Rattle.std.proofs.Common.{eqb, length, ap, sym, ◌∙◌, arith}
use Rattle.std.specs.List.{list_any}
use Rattle.bus_plan.specs.Plan.{suppliers_of}
use Rattle.bus_core.proofs.CountLemmas.{among-consumers, no-supplier}
use Rattle.bus_core.proofs.steps.is_supplier.Goals as goal

pub returns-then-index-len : goal.returns-then-index-len
returns-then-index-len c =
    sym (no-supplier (length c.args.plan.now) c.args.supplier (suppliers_of c.args.plan.now c.args.device) (c.check.ensures.suppliers c.args.device) (omega arith))

pub returns-then-consumers-suppliers : goal.returns-then-consumers-suppliers
returns-then-consumers-suppliers c =
    c.is_among.ensures ∙ ap (list_any (λ d. eqb d c.args.device)) c.consumers-consumers.ensures ∙ among-consumers c.args.plan.now c.args.device c.args.supplier c.requires
