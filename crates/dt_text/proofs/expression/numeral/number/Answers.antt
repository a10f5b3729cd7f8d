use Rattle.std.proofs.Common.{◌≡◌, ◌≤◌, ◌<◌, ◌+◌, ◌*◌, ◌^◌, false, get_or, rules, sym, ap, ◌∙◌}
use Rattle.dt_text.specs.Expression.Values.{digit_of, is_suffix}
use Rattle.dt_text.proofs.ExpressionLemmas.Literals.{ends_bad, ends_large, goes_on, skips}
use Rattle.dt_text.proofs.expression.numeral.number.Goals as goal
use Rattle.dt_text.proofs.expression.numeral.number.Goals.{then-not-is_suffix+else-digit-base+else-wide, else-not-is_suffix}

pub returns-then-digit-base : goal.returns-then-digit-base
returns-then-digit-base c =
    let s : is_suffix (get_or c.args.digits.now c.loop-c.c-index 0) ≡ false = search rules in
    let le : c.args.base ≤ digit_of (get_or c.args.digits.now c.loop-c.c-index 0) = rw (c.digit_of-digit.ensures) at c.if-digit-base.true in
    ends_bad c.args.base c.loop-c.c-index c.loop-c.number c.args.digits.now _ c.loop-c-test.true s le c.loop-c.invariant

pub returns-then-wide : goal.returns-then-wide
returns-then-wide c =
    let s : is_suffix (get_or c.args.digits.now c.loop-c.c-index 0) ≡ false = search rules in
    let lt : digit_of (get_or c.args.digits.now c.loop-c.c-index 0) < c.args.base = rw (c.digit_of-digit.ensures) at c.if-digit-base.false in
    let large : 2 ^ 64 ≤ c.loop-c.number * c.args.base + digit_of (get_or c.args.digits.now c.loop-c.c-index 0) = rw (c.digit_of-digit.ensures) at c.if-wide.true in
    ends_large c.args.base c.loop-c.c-index c.loop-c.number c.args.digits.now _ c.loop-c-test.true s lt large c.loop-c.invariant

pub loop-c-preserved : goal.loop-c-preserved
loop-c-preserved c =
    elim c.if-not-is_suffix.branch [
      | then-not-is_suffix+else-digit-base+else-wide w ↦
          let s : is_suffix (get_or c.args.digits.now c.loop-c.c-index 0) ≡ false = sym w.if-not-is_suffix.ensures in
          let lt : digit_of (get_or c.args.digits.now c.loop-c.c-index 0) < c.args.base = rw (w.digit_of-digit.ensures) at w.if-digit-base.false in
          goes_on c.args.base c.loop-c.c-index c.loop-c.number _ c.args.digits.now _ c.loop-c-test.true s lt (w.number-is ∙ ap (λ d. c.loop-c.number * c.args.base + d) w.digit_of-digit.ensures) c.loop-c.invariant
      | else-not-is_suffix w ↦ skips c.args.base c.loop-c.c-index c.loop-c.number _ c.args.digits.now _ c.loop-c-test.true (sym w.if-not-is_suffix.ensures) w.number-is c.loop-c.invariant
    ]
