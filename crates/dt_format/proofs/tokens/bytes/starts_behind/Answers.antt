use Rattle.std.proofs.Common.{sym}
use Rattle.dt_format.proofs.WhiteEnds.{starts_here, starts_on, starts_over}
use Rattle.dt_format.proofs.tokens.bytes.starts_behind.Goals as goal

pub returns-then-not-is_white : goal.returns-then-not-is_white
returns-then-not-is_white c = starts_here c.args.starts c.loop-c.is_start c.args.s.now c.loop-c.c-index c.loop-c-test.true (sym c.if-not-is_white.ensures) c.loop-c.invariant

pub loop-c-preserved : goal.loop-c-preserved
loop-c-preserved c = starts_on c.args.starts c.loop-c.is_start c.starts_on-is_start.result c.args.s.now c.loop-c.c-index c.loop-c-test.true (sym c.if-not-is_white.ensures) c.starts_on-is_start.ensures c.loop-c.invariant

pub returns : goal.returns
returns c = starts_over c.args.starts c.loop-c.is_start c.args.s.now c.loop-c.c-index c.loop-c-test.false c.loop-c.invariant
