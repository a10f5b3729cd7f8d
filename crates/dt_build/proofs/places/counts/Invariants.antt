use Rattle.std.proofs.Common.{◌≡◌, ◌<◌, ℕ, length, slice_index_or, take}
use Rattle.dt_build.specs.Places.{count_of}
use Rattle.dt_build.proofs.places.counts.Given as goal

abbrev pub invariant-loop-property : goal.invariant-loop-property
invariant-loop-property l = record {
  count : length l.counts.items ≡ l.nodes;
  counts : (n : ℕ) → n < l.nodes → slice_index_or l.counts.items n 0 ≡ count_of (take l.property-index l.properties) n;
}
