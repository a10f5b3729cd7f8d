use Rattle.std.proofs.Common.{◌≡◌, length}
use Rattle.dt_tests.proofs.source.gathered.marks.Given as goal

abbrev pub invariant-loop-node : goal.invariant-loop-node
invariant-loop-node g l = length l.marks.items ≡ l.count
