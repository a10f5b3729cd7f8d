use Rattle.std.proofs.Common.{◌≡◌, drop, max}
use Rattle.dt_tree.specs.NodeData.{siblings}
use Rattle.dt_tree.specs.Private.PhandleWalk.{greatest_among, greatest_below}
use Rattle.dt_tree.proofs.node.Node.+greatest_below.Given as goal

abbrev pub invariant-loop-child : goal.invariant-loop-child
invariant-loop-child l = max l.most (greatest_among (siblings (drop l.child-index l.child-items))) ≡ greatest_below l.self
