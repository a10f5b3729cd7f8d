use Rattle.std.proofs.Common.{◌≡◌, ◌++◌, drop}
use Rattle.dt_tree.specs.NodeData.{node_size, siblings}
use Rattle.dtman_blobs.specs.Difference.Named.{named_by}
use Rattle.dtman_blobs.specs.Difference.Private.Differences.{node_differences, shared_differences}
use Rattle.dtman_blobs.proofs.difference.comparing.+add_node.Given as goal

abbrev pub decreases-add_node : goal.decreases-add_node
decreases-add_node l = node_size l.first.now.node.now

-- what is listed so far and what the children left have is what the nodes have
abbrev pub invariant-loop-child : goal.invariant-loop-child
invariant-loop-child l =
    l.differences.items ++ shared_differences (named_by l.first.naming.now) (named_by l.second.naming.now) l.path (siblings (drop l.child-index l.child-items)) l.second.node.now.children
    ≡ l.fn.differences.items ++ node_differences (named_by l.first.naming.now) (named_by l.second.naming.now) l.path l.first.node.now l.second.node.now
