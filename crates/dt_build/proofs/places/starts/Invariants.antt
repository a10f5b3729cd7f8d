use Rattle.std.proofs.Common.{◌≡◌, ◌++◌, drop, map, slice_index_or}
use Rattle.dt_live.specs.Making.Places.{totals}
use Rattle.dt_build.proofs.places.starts.Given as goal

abbrev pub invariant-loop-node : goal.invariant-loop-node
invariant-loop-node l =
    l.starts.items ++ totals l.start (map (λ n. slice_index_or l.counts n 0) (drop l.node-index l.order)) ≡ totals 0 (map (λ n. slice_index_or l.counts n 0) l.order)
