use Rattle.std.proofs.Common.{◌<◌, ℕ}
use Rattle.dtman_arena_c.specs.Marks.{IsFurther}
use Rattle.dtman_arena_c.proofs.marks.length_at.Given as goal

abbrev pub invariant-loop-next : goal.invariant-loop-next
invariant-loop-next l = (k : ℕ) → l.at < k → k < l.next → IsFurther l.marks k
