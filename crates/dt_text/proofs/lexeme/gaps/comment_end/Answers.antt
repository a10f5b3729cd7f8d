use Rattle.std.proofs.Common.{sym, ◌∙◌, arith, ap, length, length-drop}
use Rattle.dt_text.specs.Lexeme.Gaps.{comment_end}
use Rattle.dt_text.proofs.LexemeLemmas.GapEnds.{comment_here, comment_on, comment_short}
use Rattle.dt_text.proofs.lexeme.gaps.comment_end.Goals as goal

pub returns-clause-gives : goal.returns-clause-gives
returns-clause-gives c = sym (comment_short c.loop-left.left.now (omega arith)) ∙ c.loop-left.invariant.same

pub returns-then-ends_comment-clause-gives : goal.returns-then-ends_comment-clause-gives
returns-then-ends_comment-clause-gives c = rw (c.from.ensures) (sym (comment_here c.loop-left.left.now (sym c.if-ends_comment.ensures.value)) ∙ c.loop-left.invariant.same)

pub loop-left-preserved : goal.loop-left-preserved
loop-left-preserved c = record {
  same = ap comment_end c.from-left.ensures ∙ comment_on c.loop-left.left.now (sym c.if-ends_comment.ensures.value) ∙ c.loop-left.invariant.same;
  shorter = omega (arith, ap length c.from-left.ensures, length-drop 1 c.loop-left.left.now);
}
