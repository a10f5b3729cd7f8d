use Rattle.std.proofs.Common.{sym, subst, arith}
use Rattle.dtman_check.specs.Table.Private.Reference.{AreInOrder}
use Rattle.dtman_check.proofs.table.reference.Reference.new.Goals as goal

pub invariant_of-result : goal.invariant_of-result
invariant_of-result c = subst AreInOrder (sym c.new.ensures.items) (λ k d low high. absurd (omega arith))
