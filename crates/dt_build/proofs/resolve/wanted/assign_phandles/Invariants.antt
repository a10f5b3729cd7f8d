use Rattle.std.proofs.Common.{◌≡◌, ◌++◌, length, drop}
use Rattle.dt_build.specs.Resolve.Private.Wanted.{is_taken, assigned_rows}
use Rattle.dt_build.proofs.resolve.wanted.assign_phandles.Given as goal

abbrev pub invariant-loop-node : goal.invariant-loop-node
invariant-loop-node l =
    l.phandles.items ++ assigned_rows (is_taken l.given.taken) (length l.given.phandles.items) l.last (drop l.node-index l.nodes)
    ≡ assigned_rows (is_taken l.given.taken) (length l.given.phandles.items) l.fn.last l.nodes
