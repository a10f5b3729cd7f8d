use Rattle.std.proofs.Common.{◌≡◌, drop}
use Rattle.dt_tree.specs.NodeData.{siblings}
use Rattle.bus_links.specs.Bindings.LinkNodes.{with_siblings}
use Rattle.bus_links.specs.Bindings.Private.Walk.{with_tree}
use Rattle.bus_links.proofs.bindings.walk.Walk.+visit.Given as goal

-- with the children that are left the walk is that with the whole node
abbrev pub invariant-loop-child : goal.invariant-loop-child
invariant-loop-child l = with_siblings l.here l.self (siblings (drop l.child-index l.child-items)) ≡ with_tree l.above l.fn.self l.node
