use Rattle.std.proofs.Common.{ℕ, ◌-◌, ◌≤◌, List, length}
use Rattle.dt_blob.specs.Holds.{Reserves}
use Rattle.dt_patch.specs.View.Reserved.{reserved_size}
use Rattle.dt_patch.proofs.ViewLemmas.Pairs.{Sized}
use Rattle.dt_patch.proofs.view.reserves.reserved_size_in.Given as goal

abbrev pub invariant-pairs : goal.invariant-pairs
invariant-pairs l = record {
  sized : (rs : List (ℕ × ℕ)) → Reserves rs l.bytes → Sized l.rest (length l.bytes - length l.rest) (reserved_size rs);
  shorter : length l.rest ≤ length l.bytes;
}

abbrev pub decreases-pairs : goal.decreases-pairs
decreases-pairs l = length l.rest
