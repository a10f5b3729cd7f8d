use Rattle.std.proofs.Common.{◌≡◌, drop}
use Rattle.dt_tree.specs.NodeData.{siblings, child_names}
use Rattle.dt_tree.specs.Sound.{is_among}
use Rattle.dt_tree.proofs.few.is_node_among.Given as goal

abbrev pub invariant-loop-node : goal.invariant-loop-node
invariant-loop-node l = is_among l.name (child_names (siblings (drop l.node-index l.nodes))) ≡ is_among l.name (child_names (siblings l.nodes))
