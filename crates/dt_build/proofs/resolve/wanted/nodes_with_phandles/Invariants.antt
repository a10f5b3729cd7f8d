use Rattle.std.proofs.Common.{◌≡◌, ◌==◌, ℕ, false, length, slice_index_or, take}
use Rattle.std.specs.List.{list_any}
use Rattle.dt_build.proofs.resolve.wanted.nodes_with_phandles.Given as goal

abbrev pub invariant-loop-one : goal.invariant-loop-one
invariant-loop-one l = record {
  count : length l.marks.items ≡ l.count;
  marks : (n : ℕ) → slice_index_or l.marks.items n false ≡ list_any (λ x. x.node == n) (take l.one-index l.phandles);
}
