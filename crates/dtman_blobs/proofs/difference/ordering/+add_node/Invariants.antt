use Rattle.std.proofs.Common.{◌≡◌, ◌+◌, drop, length}
use Rattle.dt_tree.specs.NodeData.{node_size, siblings}
use Rattle.dtman_blobs.specs.Difference.Private.Orders.{node_moves, moves_below}
use Rattle.dtman_blobs.proofs.difference.ordering.+add_node.Given as goal

abbrev pub decreases-add_node : goal.decreases-add_node
decreases-add_node l = node_size l.first.now

-- what is counted so far and what the children left have is what the nodes have
abbrev pub invariant-loop-child : goal.invariant-loop-child
invariant-loop-child l =
    length l.found.items + moves_below (siblings (drop l.child-index l.child-items)) l.second.children ≡ length l.fn.found.items + node_moves l.first l.second
