use Rattle.dt_text.proofs.ExpressionLemmas.Unescaping.{StoodFor}
use Rattle.dt_text.proofs.expression.escapes.unescaped.Given as goal

abbrev pub invariant-loop-i : goal.invariant-loop-i
invariant-loop-i l = StoodFor l.language l.bytes.items l.skip l.i l.inside
