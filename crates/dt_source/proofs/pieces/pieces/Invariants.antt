use Rattle.std.proofs.Common.{◌≡◌, ◌<◌, length, ℕ}
use Rattle.dt_source.specs.Reading.Values.{built, put_all}
use Rattle.dt_source.specs.Reading.Bodies.{pieces_at}
use Rattle.dt_source.specs.Reading.Loops.{into, folded}
use Rattle.dt_source.proofs.PieceLoops.{pieces_left}
use Rattle.dt_source.proofs.pieces.pieces.Given as goal

abbrev pub invariant-loop-rest : goal.invariant-loop-rest
invariant-loop-rest l = record {
  shorter : length l.left < length l.ts;
  so_far : (n : ℕ) × (length l.left < n) × (folded put_all (built l.parts) l.first (pieces_left l.language l.text n l.left) ≡ into (built l.fn.parts) (pieces_at l.language l.text l.ts));
}

abbrev pub decreases-loop-rest : goal.decreases-loop-rest
decreases-loop-rest l = length l.left
