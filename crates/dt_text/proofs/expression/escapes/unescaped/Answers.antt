use Rattle.std.proofs.Common.{refl}
use Rattle.dt_text.proofs.ExpressionLemmas.Unescaping.{one_more, all_said}
use Rattle.dt_text.proofs.expression.escapes.unescaped.Goals as goal

pub loop-i-preserved : goal.loop-i-preserved
loop-i-preserved c =
    rw (c.in_ok-push_byte.ensures, c.byte_at-byte.ensures, c.from.ensures) (one_more c.args.language c.loop-i.bytes.items c.loop-i.skip c.loop-i.i c.args.inside.now c.loop-i-test.true c.loop-i.invariant)

pub returns : goal.returns
returns c = all_said c.args.language c.loop-i.bytes.items c.loop-i.skip c.loop-i.i c.args.inside.now c.loop-i-test.false c.loop-i.invariant
