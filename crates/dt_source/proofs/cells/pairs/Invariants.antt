use Rattle.std.proofs.Common.{◌≡◌, ◌≤◌, ◌<◌, length, None, ℕ}
use Rattle.dt_source.specs.Reading.Bodies.{pairs_at}
use Rattle.dt_source.specs.Reading.Loops.{folded}
use Rattle.dt_source.proofs.CellLoops.{pair_onto, pairs_left}
use Rattle.dt_source.proofs.cells.pairs.Given as goal

abbrev pub invariant-pairs : goal.invariant-pairs
invariant-pairs l = record {
  shorter : length l.left ≤ length l.ts;
  so_far : (n : ℕ) × (length l.left < n) × (folded pair_onto l.bytes.items None (pairs_left l.text n l.left) ≡ pairs_at l.text l.ts);
}

abbrev pub decreases-pairs : goal.decreases-pairs
decreases-pairs l = length l.left
