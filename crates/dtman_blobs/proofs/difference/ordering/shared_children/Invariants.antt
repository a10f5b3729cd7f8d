use Rattle.std.proofs.Common.{◌≡◌, ◌++◌, drop}
use Rattle.dt_tree.specs.NodeData.{child_names}
use Rattle.dtman_blobs.specs.Difference.Private.Orders.{shared_nodes}
use Rattle.dtman_blobs.specs.Difference.Private.Views.{now_of}
use Rattle.dtman_blobs.proofs.difference.ordering.shared_children.Given as goal

abbrev pub invariant-loop-node : goal.invariant-loop-node
invariant-loop-node l =
    now_of l.names.items ++ shared_nodes (child_names l.theirs.children) (drop l.node-index l.node-items) ≡ shared_nodes (child_names l.theirs.children) l.node-items
