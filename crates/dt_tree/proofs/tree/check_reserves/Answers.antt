use Rattle.std.proofs.Common.{sym, subst}
use Rattle.std.proofs.lemmas.List.{drop_more}
use Rattle.dt_tree.specs.TreeData.{AreLong}
use Rattle.dt_tree.proofs.tree.check_reserves.Goals as goal

pub loop-reserve-preserved : goal.loop-reserve-preserved
loop-reserve-preserved c =
    let all = c.args.reserves.now in
    λ rest. c.loop-reserve.invariant (subst AreLong (sym (drop_more all c.loop-reserve.reserve-index (0, 0) c.loop-reserve-test.true)) (c.check_long.ensures, c.check_long-in-loop-reserve.ensures, rest))
