-- One supplier more is written.
use Rattle.std.proofs.Common.{◌∙◌}
use Rattle.bus_plan.proofs.TextSteps.{spaced-more}
use Rattle.bus_plan.proofs.writing.write_suppliers.Goals as goal

pub loop-supplier-preserved : goal.loop-supplier-preserved
loop-supplier-preserved c =
    c.in_ok-write_field.ensures
    ∙ spaced-more c.args.text.now.items c.loop-supplier.text.items c.args.plan.now c.args.suppliers.now c.loop-supplier.supplier-index c.supplier-item.result c.as_bytes.result.now
    c.loop-supplier-test.true c.supplier-item.is (c.as_bytes.ensures.value ∙ c.path.ensures) c.loop-supplier.invariant
