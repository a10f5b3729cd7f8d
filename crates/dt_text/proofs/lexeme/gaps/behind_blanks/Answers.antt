use Rattle.std.proofs.Common.{◌∙◌, sym, arith, length}
use Rattle.std.proofs.lemmas.List.{drop_all}
use Rattle.dt_text.proofs.LexemeLemmas.GapEnds.{spaces_here, spaces_on, spaces_over}
use Rattle.dt_text.proofs.lexeme.gaps.behind_blanks.Goals as goal

pub returns-then-not-is_space : goal.returns-then-not-is_space
returns-then-not-is_space c = c.from.ensures ∙ spaces_here c.args.s.now c.loop-i.i c.loop-i-test.true (sym c.if-not-is_space.ensures) c.loop-i.invariant

pub loop-i-preserved : goal.loop-i-preserved
loop-i-preserved c = spaces_on c.args.s.now c.loop-i.i c.loop-i-test.true (sym c.if-not-is_space.ensures) c.loop-i.invariant

pub returns : goal.returns
returns c = c.from-2.ensures ∙ drop_all (length c.args.s.now) c.args.s.now (omega arith) ∙ spaces_over c.args.s.now c.loop-i.i c.loop-i-test.false c.loop-i.invariant
