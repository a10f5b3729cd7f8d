use Rattle.std.proofs.Common.{sym}
use Rattle.dt_format.proofs.WhiteEnds.{word_start, word_here, word_on, word_over}
use Rattle.dt_format.proofs.tokens.directive.word_of.Goals as goal

pub loop-i-init : goal.loop-i-init
loop-i-init c = word_start c.args.s.now

pub returns-then-not-is_letter : goal.returns-then-not-is_letter
returns-then-not-is_letter c = word_here c.args.s.now c.loop-i.i c.loop-i-test.true (sym c.if-not-is_letter.ensures) c.loop-i.invariant

pub loop-i-preserved : goal.loop-i-preserved
loop-i-preserved c = word_on c.args.s.now c.loop-i.i c.loop-i-test.true (sym c.if-not-is_letter.ensures) c.loop-i.invariant

pub returns : goal.returns
returns c = word_over c.args.s.now c.loop-i.i c.loop-i-test.false c.loop-i.invariant
