use Rattle.std.proofs.Common.{◌≡◌, drop, max}
use Rattle.dt_tree.specs.NodeData.{siblings}
use Rattle.dt_tree.specs.Private.PhandleWalk.{unreserved, greatest_among, greatest_in_tree}
use Rattle.dt_tree.proofs.node.Node.greatest_in_tree.Given as goal

abbrev pub invariant-loop-child : goal.invariant-loop-child
invariant-loop-child l = max l.most (greatest_among (unreserved (siblings (drop l.child-index l.child-items)))) ≡ greatest_in_tree l.self
