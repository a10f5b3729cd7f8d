use Rattle.std.proofs.Common.{◌∙◌}
use Rattle.dtman_check.proofs.FoundLemmas.{found-passed}
use Rattle.dtman_check.proofs.table.looking.next_with_one.Goals as goal

pub loop-place-preserved : goal.loop-place-preserved
loop-place-preserved c = λ check finds all written asks.
    c.loop-place.invariant check finds all written asks
    ∙ found-passed check finds all written c.loop-place.place c.args.nodes.now c.index-nodes-place.result c.loop-place-test.true c.index-nodes-place.is
    (c.may_have_one.ensures c.if-may_have_one.false check finds all written c.loop-place.place asks)
