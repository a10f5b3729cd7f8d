use Rattle.std.proofs.Common.{◌≡◌, ◌<◌, length, ℕ}
use Rattle.dt_source.specs.Reading.Whole.{reserves_at}
use Rattle.dt_source.specs.Reading.Loops.{folded}
use Rattle.dt_source.proofs.SourceLoops.{reserve_onto, reserves_left}
use Rattle.dt_source.proofs.source.reserves.Given as goal

abbrev pub invariant-reserves : goal.invariant-reserves
invariant-reserves l = (n : ℕ) × (length l.left < n) × (folded reserve_onto l.list.items l.first (reserves_left l.text n l.left) ≡ reserves_at l.text l.ts)

abbrev pub decreases-reserves : goal.decreases-reserves
decreases-reserves l = length l.left
