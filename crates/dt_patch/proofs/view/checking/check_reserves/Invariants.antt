use Rattle.std.proofs.Common.{ℕ, List, length}
use Rattle.dt_blob.specs.Steps.Reading.{reserves_at}
use Rattle.dt_blob.proofs.Stepping.{Joins}
use Rattle.dt_patch.proofs.view.checking.check_reserves.Given as goal

abbrev pub invariant-pairs : goal.invariant-pairs
invariant-pairs l = (front : List (ℕ × ℕ)) × Joins l.rest front (reserves_at l.bytes)

abbrev pub decreases-pairs : goal.decreases-pairs
decreases-pairs l = length l.rest
