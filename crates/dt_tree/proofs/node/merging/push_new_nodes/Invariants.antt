use Rattle.std.proofs.Common.{◌≡◌, ◌++◌, drop}
use Rattle.dt_tree.specs.NodeData.{siblings, child_names}
use Rattle.dt_tree.specs.Private.Merging.{new_nodes}
use Rattle.dt_tree.proofs.node.merging.push_new_nodes.Given as goal

abbrev pub invariant-loop-node : goal.invariant-loop-node
invariant-loop-node l =
    l.merged.items ++ new_nodes (child_names (siblings l.fn.ours)) (drop l.node-index l.theirs) ≡ l.initial.merged.items ++ new_nodes (child_names (siblings l.fn.ours)) l.theirs
