use Rattle.std.proofs.Common.{◌≡◌, ◌+◌, ◌≤◌, drop}
use Rattle.std.specs.Prelude.{sum}
use Rattle.dt_blob.specs.Blob.{limit}
use Rattle.dt_blob.proofs.room.check_pieces.Given as goal

abbrev pub invariant-loop-piece : goal.invariant-loop-piece
invariant-loop-piece l = record {
  left : (limit + sum (drop l.piece-index l.pieces)) ≡ l.room + (l.used + sum l.pieces);
  fits : l.room ≤ limit;
}
