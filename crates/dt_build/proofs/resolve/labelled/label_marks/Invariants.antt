use Rattle.std.proofs.Common.{◌≡◌, ◌==◌, ℕ, false, length, slice_index_or, take}
use Rattle.std.specs.List.{list_any}
use Rattle.dt_build.proofs.resolve.labelled.label_marks.Given as goal

abbrev pub invariant-loop-row : goal.invariant-loop-row
invariant-loop-row l = record {
  count : length l.marks.items ≡ l.count;
  marks : (n : ℕ) → slice_index_or l.marks.items n false ≡ list_any (λ r. r.node == n) (take l.row-index l.labels);
}
