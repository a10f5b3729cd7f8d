use Rattle.std.proofs.Common.{List, ◌+◌, ◌++◌, drop, refl, ap, sym, ◌∙◌}
use Rattle.dt_tree.specs.NodeData.{NodeData}
use Rattle.dt_tree.proofs.Collected.{all-next, all-end}
use Rattle.dt_tree.proofs.node.merging.push_copies.Goals as goal

pub loop-node-preserved : goal.loop-node-preserved
loop-node-preserved c =
    let nodes = c.args.nodes.now in
    let i = c.loop-node.node-index in
    ap (λ (l : List NodeData). l ++ drop (i + 1) nodes) c.in_ok-push_copy.ensures
    ∙ all-next c.loop-node.copies.items nodes i c.node-item.result _ c.loop-node-test.true c.node-item.is refl
    ∙ c.loop-node.invariant

pub returns : goal.returns
returns c = sym (all-end c.loop-node.copies.items c.args.nodes.now c.loop-node.node-index c.loop-node-test.false) ∙ c.loop-node.invariant
