use Rattle.std.proofs.Common.{◌∙◌, arith, length}
use Rattle.std.proofs.lemmas.List.{drop_all}
use Rattle.std.proofs.lemmas.Bool.{eq-eqb, ne_eqb}
use Rattle.dt_text.proofs.LexemeLemmas.GapEnds.{line_here, line_on, line_over}
use Rattle.dt_text.proofs.lexeme.gaps.line_end.Goals as goal

pub returns-then-c-eq10-clause-gives : goal.returns-then-c-eq10-clause-gives
returns-then-c-eq10-clause-gives c = c.from.ensures ∙ line_here c.args.s.now c.loop-i.i c.loop-i-test.true (eq-eqb _ _ c.if-c-eq10.true) c.loop-i.invariant

pub loop-i-preserved : goal.loop-i-preserved
loop-i-preserved c = line_on c.args.s.now c.loop-i.i c.loop-i-test.true (ne_eqb _ _ c.if-c-eq10.false) c.loop-i.invariant

pub returns-clause-gives : goal.returns-clause-gives
returns-clause-gives c = c.from-2.ensures ∙ drop_all (length c.args.s.now) c.args.s.now (omega arith) ∙ line_over c.args.s.now c.loop-i.i c.loop-i-test.false c.loop-i.invariant
