use Rattle.std.proofs.Common.{◌-◌}
use Rattle.dtman_arena_c.specs.Marks.{AreFree}
use Rattle.dtman_arena_c.proofs.marks.are_free.Given as goal

abbrev pub invariant-loop-next : goal.invariant-loop-next
invariant-loop-next l = AreFree l.marks l.at (l.next - l.at)
