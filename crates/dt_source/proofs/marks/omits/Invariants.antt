use Rattle.std.proofs.Common.{◌≡◌, drop}
use Rattle.dt_source.specs.Marks.{omits}
use Rattle.dt_source.proofs.marks.omits.Given as goal

abbrev pub invariant-loop-mark : goal.invariant-loop-mark
invariant-loop-mark l = omits (drop l.mark-index l.marks) ≡ omits l.marks
