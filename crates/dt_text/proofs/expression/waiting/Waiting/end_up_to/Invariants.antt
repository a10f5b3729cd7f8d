use Rattle.std.proofs.Common.{◌≡◌, ◌≤◌}
use Rattle.dt_text.specs.Expression.ReadingOperators.{joined_up_to, NothingUpTo, SameWait}
use Rattle.dt_text.proofs.expression.waiting.Waiting.end_up_to.Given as goal

abbrev pub invariant-loop-place : goal.invariant-loop-place
invariant-loop-place l = record {
  so_far : l.value ≡ joined_up_to l.fn.self.of_rank l.place l.fn.operand;
  ended : NothingUpTo l.self.of_rank l.place;
  others : SameWait (λ k. l.place ≤ k) l.fn.self.of_rank l.self.of_rank;
}
