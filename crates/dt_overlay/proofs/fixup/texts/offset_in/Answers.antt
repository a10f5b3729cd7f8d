use Rattle.std.proofs.Common.{◌≤◌, ◌<◌, arith}
use Rattle.dt_overlay.proofs.FixupLemmas.TextLaws.{tens, tens-most}
use Rattle.dt_overlay.proofs.fixup.texts.offset_in.Goals as goal

pub overflow_mul-number : goal.overflow_mul-number
overflow_mul-number c =
    let short : c.loop-digit.digit-index ≤ 9 = omega arith in
    let most : tens c.loop-digit.digit-index ≤ 1000000000 = tens-most c.loop-digit.digit-index short in
    let below : c.loop-digit.number < tens c.loop-digit.digit-index = c.loop-digit.invariant.below in
    let less : c.loop-digit.number < 1000000000 = omega arith in
    omega (arith, less)

pub overflow_add-number : goal.overflow_add-number
overflow_add-number c =
    let short : c.loop-digit.digit-index ≤ 9 = omega arith in
    let most : tens c.loop-digit.digit-index ≤ 1000000000 = tens-most c.loop-digit.digit-index short in
    let below : c.loop-digit.number < tens c.loop-digit.digit-index = c.loop-digit.invariant.below in
    let less : c.loop-digit.number < 1000000000 = omega arith in
    omega (arith, less, c.is_ascii_digit.ensures.bound)
