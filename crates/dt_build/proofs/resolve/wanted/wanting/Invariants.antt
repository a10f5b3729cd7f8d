use Rattle.std.proofs.Common.{◌≡◌, ◌==◌, ◌++◌, false, length, slice_index_or, drop}
use Rattle.std.specs.List.{list_any}
use Rattle.dt_build.specs.Resolve.Private.Wanted.{new_rows}
use Rattle.dt_build.proofs.resolve.wanted.wanting.Given as goal

abbrev pub invariant-loop-node : goal.invariant-loop-node
invariant-loop-node l = record {
  count : length l.known.items ≡ l.count;
  rest : l.nodes.items ++ new_rows (λ n. slice_index_or l.known.items n false) (drop l.node-index l.named) ≡ new_rows (λ n. list_any (λ x. x.node == n) l.given) l.named;
}
