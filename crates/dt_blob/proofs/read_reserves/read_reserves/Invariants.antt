use Rattle.std.proofs.Common.{length}
use Rattle.dt_blob.specs.Steps.Reading.{reserves_at}
use Rattle.dt_blob.proofs.Stepping.{Joins}
use Rattle.dt_blob.proofs.read_reserves.read_reserves.Given as goal

abbrev pub invariant-pairs : goal.invariant-pairs
invariant-pairs l = Joins l.rest l.reserves.items (reserves_at l.bytes)

abbrev pub decreases-pairs : goal.decreases-pairs
decreases-pairs l = length l.rest
