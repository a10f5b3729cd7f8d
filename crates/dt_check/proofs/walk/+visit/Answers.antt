use Rattle.std.proofs.Common.{◌+◌, drop}
use Rattle.dt_tree.specs.NodeData.{siblings}
use Rattle.dt_check.proofs.WalkLemmas.{next-node, walk-next, walk-last}
use Rattle.dt_check.proofs.walk.+visit.Goals as goal

pub loop-child-preserved : goal.loop-child-preserved
loop-child-preserved t c =
    let all = c.children-child-items.result.now in
    let i = c.loop-child.child-index in
    let b = c.child-item.result in
    walk-next _ c.loop-child.nodes.items c.visit.new.nodes.items _ (siblings (drop i all)) (siblings (drop (i + 1) all)) b (next-node all i b c.loop-child-test.true c.child-item.is) c.in_ok-visit.ensures c.loop-child.invariant

pub returns : goal.returns
returns t c = walk-last _ c.loop-child.nodes.items _ c.children-child-items.result.now c.loop-child.child-index c.loop-child-test.false c.loop-child.invariant
