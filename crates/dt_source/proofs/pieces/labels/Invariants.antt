use Rattle.dt_source.proofs.PieceLoops.{Labelled}
use Rattle.dt_source.proofs.pieces.labels.Given as goal

abbrev pub invariant-loop-i : goal.invariant-loop-i
invariant-loop-i l = Labelled l.i l.ts
