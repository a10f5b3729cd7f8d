use Rattle.std.proofs.Common.{◌≡◌, map, length}
use Rattle.std.specs.List.{range_with_len}
use Rattle.bus_plan.specs.Plan.{suppliers_of}
use Rattle.bus_core.proofs.counts.supplier_counts.Given as goal

abbrev pub invariant-loop-index : goal.invariant-loop-index
invariant-loop-index l = l.counts.items ≡ map (λ d. length (suppliers_of l.plan d)) (range_with_len 0 l.index)
