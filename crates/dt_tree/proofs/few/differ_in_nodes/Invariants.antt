use Rattle.std.proofs.Common.{◌≡◌, drop}
use Rattle.dt_tree.specs.NodeData.{siblings, child_names}
use Rattle.dt_tree.specs.Sound.{are_distinct}
use Rattle.dt_tree.proofs.few.differ_in_nodes.Given as goal

abbrev pub invariant-loop-at : goal.invariant-loop-at
invariant-loop-at l = are_distinct (child_names (siblings (drop l.at l.nodes))) ≡ are_distinct (child_names (siblings l.nodes))
