use Rattle.std.proofs.Common.{◌≡◌, drop}
use Rattle.dt_text.specs.Lexeme.Gaps.{behind_blanks}
use Rattle.dt_text.proofs.lexeme.gaps.behind_blanks.Given as goal

abbrev pub invariant-loop-i : goal.invariant-loop-i
invariant-loop-i l = behind_blanks (drop l.i l.s) ≡ behind_blanks l.s
