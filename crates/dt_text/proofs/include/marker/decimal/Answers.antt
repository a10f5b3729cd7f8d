use Rattle.std.proofs.Common.{arith}
use Rattle.dt_text.proofs.IncludeLemmas.MarkerWords.{number_more, number_whole}
use Rattle.dt_text.proofs.include.marker.decimal.Goals as goal

pub loop-c-preserved : goal.loop-c-preserved
loop-c-preserved c =
    number_more c.args.digits.now c.loop-c.c-index c.loop-c.number c.saturating_mul.result c.digit_value.result c.saturating_add-number.result (omega arith) c.loop-c.invariant c.saturating_mul.ensures c.digit_value.ensures c.saturating_add-number.ensures

pub returns : goal.returns
returns c = number_whole c.args.digits.now c.loop-c.c-index c.loop-c.number (omega arith) c.loop-c.invariant
