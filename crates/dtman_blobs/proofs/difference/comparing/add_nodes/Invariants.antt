use Rattle.std.proofs.Common.{◌≡◌, ◌++◌, drop}
use Rattle.dt_tree.specs.NodeData.{child_names}
use Rattle.dtman_blobs.specs.Difference.Private.Differences.{nodes_alone}
use Rattle.dtman_blobs.specs.Difference.Private.Things.{is_first}
use Rattle.dtman_blobs.proofs.difference.comparing.add_nodes.Given as goal

abbrev pub invariant-loop-node : goal.invariant-loop-node
invariant-loop-node l =
    l.differences.items ++ nodes_alone (is_first l.side) l.path (drop l.node-index l.node-items) (child_names l.theirs.children)
    ≡ l.initial.differences.items ++ nodes_alone (is_first l.side) l.path l.node-items (child_names l.theirs.children)
