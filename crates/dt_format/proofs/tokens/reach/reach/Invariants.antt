use Rattle.std.proofs.Common.{◌≡◌, ◌+◌, drop}
use Rattle.dt_format.specs.Reach.{reach}
use Rattle.dt_format.proofs.tokens.reach.reach.Given as goal

abbrev pub invariant-loop-i : goal.invariant-loop-i
invariant-loop-i l = reach l.state (l.i + 1) (drop l.i l.s) ≡ reach l.fn.opening 1 l.s
