use Rattle.std.proofs.Common.{ℕ, List, length}
use Rattle.std.specs.Prelude.{slice_get}
use Rattle.dt_blob.specs.Holds.{Reserves}
use Rattle.dt_patch.proofs.ViewLemmas.Pairs.{Asked}
use Rattle.dt_patch.proofs.view.reserves.reservation_in.Given as goal

abbrev pub invariant-pairs : goal.invariant-pairs
invariant-pairs l = (rs : List (ℕ × ℕ)) → Reserves rs l.bytes → Asked l.rest l.before (slice_get rs l.fn.index)

abbrev pub decreases-pairs : goal.decreases-pairs
decreases-pairs l = length l.rest
