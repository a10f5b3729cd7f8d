use Rattle.std.proofs.Common.{◌≡◌, max, drop}
use Rattle.dt_tree.specs.NodeData.{siblings, height_of}
use Rattle.dt_tree.proofs.node.Node.+height.Given as goal

abbrev pub invariant-loop-child : goal.invariant-loop-child
invariant-loop-child l = max l.most (height_of (siblings (drop l.child-index l.child-items))) ≡ height_of l.self.children
