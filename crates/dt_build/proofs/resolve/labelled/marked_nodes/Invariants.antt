use Rattle.std.proofs.Common.{◌≡◌, take}
use Rattle.dt_build.specs.Resolve.Private.Gone.{is_marked}
use Rattle.dt_build.specs.Resolve.Private.Wanted.{marked_rows}
use Rattle.dt_build.proofs.resolve.labelled.marked_nodes.Given as goal

abbrev pub invariant-loop-node : goal.invariant-loop-node
invariant-loop-node l = l.nodes.items ≡ marked_rows l.live (is_marked l.marks) (take l.node-index l.order)
