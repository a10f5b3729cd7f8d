use Rattle.std.proofs.Common.{◌≡◌, false, take}
use Rattle.std.specs.List.{list_any}
use Rattle.dt_build.specs.Resolve.Private.Gone.{is_marked}
use Rattle.dt_build.proofs.resolve.gathered.is_one_marked.Given as goal

abbrev pub invariant-loop-node : goal.invariant-loop-node
invariant-loop-node l = list_any (is_marked l.marks) (take l.node-index l.nodes) ≡ false
