use Rattle.std.proofs.Common.{drop}
use Rattle.dt_tree.specs.TreeData.{AreLong}
use Rattle.dt_tree.proofs.tree.check_reserves.Given as goal

abbrev pub invariant-loop-reserve : goal.invariant-loop-reserve
invariant-loop-reserve l = AreLong (drop l.reserve-index l.reserves) → AreLong l.reserves
