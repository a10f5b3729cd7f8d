use Rattle.std.proofs.Common.{◌≡◌, inr, false, ◌&&◌, ◌==◌, sym, ap, ◌∙◌, arith}
use Rattle.std.proofs.lemmas.Bool.Decides.{nat_tests}
use Rattle.byteorder.specs.Endian.{big_number}
use Rattle.dt_blob.specs.Steps.Reading.{reserves_at}
use Rattle.dt_blob.proofs.Stepping.{joins_begin, joins_short, joins_last, joins_more}
use Rattle.dt_blob.proofs.read_reserves.read_reserves.Goals as goal
use Rattle.dt_blob.proofs.read_reserves.read_reserves.Goals.{else-address-eq0-via-then-address-eq0+else-size-eq0, else-address-eq0-via-else-address-eq0}

pub pairs-init : goal.pairs-init
pairs-init c = joins_begin c.args.bytes.now _ c.new-reserves.ensures.items

pub returns-then-rest-lt-RESERVATION_SIZE : goal.returns-then-rest-lt-RESERVATION_SIZE
returns-then-rest-lt-RESERVATION_SIZE c = inr (c.refused.ensures.kind, joins_short c.pairs.rest.now _ _ c.if-rest-lt-RESERVATION_SIZE.true c.pairs.invariant)

pub returns-then-size-eq0 : goal.returns-then-size-eq0
returns-then-size-eq0 c =
    rw c.shrink_to_fit.ensures.items (joins_last c.pairs.rest.now _ _ c.if-rest-lt-RESERVATION_SIZE.false (sym c.long-address.ensures ∙ c.if-address-eq0.true)
    (sym (c.long-size.ensures ∙ ap (big_number 8) c.behind.ensures) ∙ c.if-size-eq0.true) c.pairs.invariant)

pub pairs-preserved : goal.pairs-preserved
pairs-preserved c =
    let rest = c.pairs.rest.now in
    let second = c.long-size.ensures ∙ ap (big_number 8) c.behind.ensures in
    let some : (c.long-address.result == 0 && c.long-size.result == 0) ≡ false =
    elim c.else-address-eq0.branch [
      | else-address-eq0-via-then-address-eq0+else-size-eq0 w ↦ grind (arith, nat_tests)
      | else-address-eq0-via-else-address-eq0 w ↦ grind (arith, nat_tests)
    ] in
    rw (c.behind-rest.ensures, c.in_ok-push.ensures.items, c.long-address.ensures, second)
    (joins_more rest c.pairs.reserves.items (reserves_at c.args.bytes.now) (omega arith) (rw (c.long-address.ensures, second) at some) c.pairs.invariant)
