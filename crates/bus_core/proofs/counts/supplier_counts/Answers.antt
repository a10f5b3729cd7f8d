use Rattle.std.proofs.Common.{length, ap, ◌∙◌}
use Rattle.bus_plan.specs.Plan.{suppliers_of}
use Rattle.bus_core.proofs.CountLemmas.{map-range_push}
use Rattle.bus_core.proofs.counts.supplier_counts.Goals as goal

pub loop-index-preserved : goal.loop-index-preserved
loop-index-preserved c =
    map-range_push (λ d. length (suppliers_of c.args.plan.now d)) c.loop-index.index c.loop-index.counts.items c.push.new.self.items _ c.loop-index.invariant c.in_ok-push.ensures.items
    (ap length c.suppliers.ensures ∙ ap (λ k. length (suppliers_of c.args.plan.now k)) c.new.ensures)
