use Rattle.std.proofs.Common.{rules}
use Rattle.std.proofs.lemmas.Fn.{always_returns_same}
use Rattle.std.specs.Ordering.{is_lt}
use Rattle.dtman_check.specs.Table.Private.Reference.{row_order}
use Rattle.dtman_check.proofs.OrderLemmas.{in-order, rows-rank}
use Rattle.dtman_check.proofs.table.reference.Reference.read.Goals as goal

pub invariant_of-result : goal.invariant_of-result
invariant_of-result c =
    in-order _ (c.in_ok-sort_by.ensures.sorted (λ x y. is_lt (row_order x y)) rows-rank
    (always_returns_same _ _ _ (λ a r f k. search rules)))
