use Rattle.std.proofs.Common.{drop}
use Rattle.dt_tree.specs.NodeData.{siblings}
use Rattle.dt_tree.specs.Sound.{IsSoundBelow}
use Rattle.dt_tree.proofs.making.check_nodes.Given as goal

abbrev pub invariant-loop-node : goal.invariant-loop-node
invariant-loop-node l = IsSoundBelow (siblings (drop l.node-index l.nodes)) → IsSoundBelow (siblings l.nodes)
