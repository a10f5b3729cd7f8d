use Rattle.std.proofs.Common.{◌≡◌, ℕ, false, length, slice_index_or, take}
use Rattle.std.specs.List.{list_any}
use Rattle.dt_build.specs.Resolve.Private.Gone.{is_target}
use Rattle.dt_build.proofs.resolve.gone.named_marks.Given as goal

abbrev pub invariant-loop-target : goal.invariant-loop-target
invariant-loop-target l = record {
  count : length l.marks.items ≡ l.count;
  marks : (n : ℕ) → slice_index_or l.marks.items n false ≡ list_any (is_target n) (take l.target-index l.targets);
}
