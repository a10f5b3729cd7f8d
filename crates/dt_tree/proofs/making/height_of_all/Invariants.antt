use Rattle.std.proofs.Common.{◌≡◌, drop, max}
use Rattle.dt_tree.specs.NodeData.{siblings, height_of}
use Rattle.dt_tree.proofs.making.height_of_all.Given as goal

abbrev pub invariant-loop-node : goal.invariant-loop-node
invariant-loop-node l = max l.most (height_of (siblings (drop l.node-index l.nodes))) ≡ height_of (siblings l.nodes)
