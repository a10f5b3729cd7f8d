use Rattle.std.proofs.Common.{arith}
use Rattle.dtman_arena_c.proofs.blocks.dtman_arena_give.Goals as goal

pub returns-then-count-gt0-clause-given : goal.returns-then-count-gt0-clause-given
returns-then-count-gt0-clause-given c =
    let was = c.length_at-count.ensures.length.block c.if-count-gt0.true in
    let filled = c.fill.ensures in
    record {
      same_length = filled.same_length;
      below = λ k l. filled.below k 0 l;
      above = λ k a b. filled.above k 0 a;
      was_block = was.begins;
      was_free = λ k a b. omega (arith, a, b);
      is_block = record { first = λ l. omega (arith, l); further = λ k a b. omega (arith, a, b) };
      is_free = λ k a b. filled.inside k 1 (omega (arith, a)) (omega (arith, b));
    }
