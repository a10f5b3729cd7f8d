use Rattle.std.proofs.Common.{◌≡◌, drop}
use Rattle.dt_text.specs.Lexeme.Gaps.{line_end}
use Rattle.dt_text.proofs.lexeme.gaps.line_end.Given as goal

abbrev pub invariant-loop-i : goal.invariant-loop-i
invariant-loop-i l = line_end (drop l.i l.s) ≡ line_end l.s
