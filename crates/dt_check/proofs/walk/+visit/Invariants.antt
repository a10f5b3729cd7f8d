use Rattle.std.proofs.Common.{◌≡◌, drop, Some}
use Rattle.dt_tree.specs.NodeData.{siblings}
use Rattle.dt_check.specs.Nodes.{with_siblings, with_tree}
use Rattle.dt_check.proofs.walk.+visit.Given as goal

-- with the children that are left the nodes are those with the whole node
abbrev pub invariant-loop-child : goal.invariant-loop-child
invariant-loop-child l = with_siblings (Some l.place) l.nodes.items (siblings (drop l.child-index l.child-items)) ≡ with_tree l.fn.above l.fn.nodes.items l.node
