use Rattle.dt_source.proofs.MarkLoops.{Marked}
use Rattle.dt_source.proofs.marks.marks.Given as goal

abbrev pub invariant-loop-i : goal.invariant-loop-i
invariant-loop-i l = Marked l.i l.ts
