use Rattle.std.proofs.Common.{◌≡◌, drop}
use Rattle.dt_tree.specs.NodeData.{siblings}
use Rattle.dt_tree.specs.PathMap.{child_named}
use Rattle.dt_tree.proofs.node.Node.child.Given as goal

abbrev pub invariant-loop-child : goal.invariant-loop-child
invariant-loop-child l = child_named (siblings (drop l.child-index l.child-items)) l.name ≡ child_named l.self.children l.name
