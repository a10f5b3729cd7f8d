use Rattle.std.proofs.Common.{◌≡◌, ◌&&◌, drop}
use Rattle.dt_tree.specs.NodeData.{siblings, child_names}
use Rattle.dt_tree.specs.Private.Seen.{are_fresh}
use Rattle.dt_tree.specs.Sound.{are_distinct}
use Rattle.dt_tree.proofs.making.are_distinct_nodes.Given as goal

abbrev pub invariant-loop-node : goal.invariant-loop-node
invariant-loop-node l = (are_distinct (child_names (siblings (drop l.node-index l.nodes))) && are_fresh l.seen (child_names (siblings (drop l.node-index l.nodes)))) ≡ are_distinct (child_names (siblings l.nodes))
