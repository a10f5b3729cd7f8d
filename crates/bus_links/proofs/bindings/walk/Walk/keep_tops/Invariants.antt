use Rattle.std.proofs.Common.{◌≡◌, drop}
use Rattle.dt_tree.specs.NodeData.{siblings}
use Rattle.dt_tree.specs.Private.PhandleWalk.{unreserved}
use Rattle.bus_links.specs.Bindings.LinkNodes.{with_siblings, root_above, met_root}
use Rattle.bus_links.proofs.bindings.walk.Walk.keep_tops.Given as goal

-- with the nodes that are left the walk is that over the tree
abbrev pub invariant-loop-top : goal.invariant-loop-top
invariant-loop-top l =
    with_siblings l.above l.self (unreserved (siblings (drop l.top-index l.top-items)))
    ≡ with_siblings (root_above l.root) (met_root l.root) (unreserved l.root.children)
