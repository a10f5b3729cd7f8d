use Rattle.std.proofs.Common.{◌+◌, drop}
use Rattle.dt_tree.specs.NodeData.{siblings}
use Rattle.bus_drivers.proofs.WalkLaws.{next-node}
use Rattle.bus_links.proofs.BindingsLemmas.WalkLemmas.{walk-begin, walk-next, walk-last}
use Rattle.bus_links.proofs.bindings.walk.Walk.+visit.Goals as goal

pub loop-child-init : goal.loop-child-init
loop-child-init t c = walk-begin c.args.above.now c.args.self.now c.args.node.now _ _ _ c.in_ok-here.ensures.above c.in_ok-here.ensures.walk c.children-child-items.ensures.nodes

pub loop-child-preserved : goal.loop-child-preserved
loop-child-preserved t c =
    let all = c.children-child-items.result.now in
    let i = c.loop-child.child-index in
    let b = c.child-item.result in
    walk-next c.in_ok-here.here c.loop-child.self c.visit.new.self _ (siblings (drop i all)) (siblings (drop (i + 1) all)) b (next-node all i b c.loop-child-test.true c.child-item.is) c.in_ok-visit.ensures c.loop-child.invariant

pub returns : goal.returns
returns t c = walk-last c.in_ok-here.here c.loop-child.self _ c.children-child-items.result.now c.loop-child.child-index c.loop-child-test.false c.loop-child.invariant
