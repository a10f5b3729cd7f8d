use Rattle.std.proofs.Common.{sym}
use Rattle.dt_format.proofs.Lowering.{digits_stop, digits_wrong, digits_on, digits_over}
use Rattle.dt_format.proofs.tokens.spelling.digits_end.Goals as goal

pub returns-then-not-is_name : goal.returns-then-not-is_name
returns-then-not-is_name c = digits_stop c.loop-c.behind c.args.s.now c.loop-c.c-index c.loop-c-test.true (sym c.if-not-is_name.ensures) c.loop-c.invariant

pub returns-then-is_strange : goal.returns-then-is_strange
returns-then-is_strange c = digits_wrong c.loop-c.behind c.args.s.now c.loop-c.c-index c.loop-c-test.true (sym c.if-not-is_name.ensures) (sym c.if-is_strange.ensures) c.loop-c.invariant

pub loop-c-preserved : goal.loop-c-preserved
loop-c-preserved c = digits_on c.loop-c.behind c.behind_suffix-behind.result c.args.s.now c.loop-c.c-index c.loop-c-test.true (sym c.if-not-is_name.ensures) (sym c.if-is_strange.ensures) c.behind_suffix-behind.ensures c.loop-c.invariant

pub returns : goal.returns
returns c = digits_over c.loop-c.behind c.args.s.now c.loop-c.c-index c.loop-c-test.false c.loop-c.invariant
