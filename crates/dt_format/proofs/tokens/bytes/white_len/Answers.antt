use Rattle.std.proofs.Common.{◌∙◌, sym, arith, length}
use Rattle.std.proofs.lemmas.List.{drop_all}
use Rattle.dt_format.proofs.WhiteEnds.{white_here, white_on, white_over}
use Rattle.dt_format.proofs.tokens.bytes.white_len.Goals as goal

pub returns-then-not-is_white-clause-behind : goal.returns-then-not-is_white-clause-behind
returns-then-not-is_white-clause-behind c = white_here c.args.s.now c.loop-i.i c.loop-i-test.true (sym c.if-not-is_white.ensures) c.loop-i.invariant

pub loop-i-preserved : goal.loop-i-preserved
loop-i-preserved c = white_on c.args.s.now c.loop-i.i c.loop-i-test.true (sym c.if-not-is_white.ensures) c.loop-i.invariant

pub returns-clause-behind : goal.returns-clause-behind
returns-clause-behind c = drop_all (length c.args.s.now) c.args.s.now (omega arith) ∙ white_over c.args.s.now c.loop-i.i c.loop-i-test.false c.loop-i.invariant
