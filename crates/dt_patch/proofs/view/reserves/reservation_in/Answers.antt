use Rattle.std.proofs.Common.{◌≡◌, refl, false, true, ◌&&◌, ◌==◌, sym, subst, ap, ◌∙◌, arith, List, ℕ}
use Rattle.std.specs.Prelude.{slice_get}
use Rattle.std.proofs.lemmas.Bool.Decides.{nat_tests}
use Rattle.byteorder.specs.Endian.{big_number}
use Rattle.dt_blob.specs.Holds.{Reserves}
use Rattle.dt_patch.proofs.ViewLemmas.Pairs.{asked_short, asked_end, asked_some, at_first, at_later}
use Rattle.dt_patch.proofs.view.reserves.reservation_in.Goals as goal
use Rattle.dt_patch.proofs.view.reserves.reservation_in.Goals.{else-address-eq0-via-then-address-eq0+else-size-eq0, else-address-eq0-via-else-address-eq0}

pub pairs-init : goal.pairs-init
pairs-init c = λ rs r. (rs, r, refl)

pub returns-then-rest-lt-RESERVATION_SIZE : goal.returns-then-rest-lt-RESERVATION_SIZE
returns-then-rest-lt-RESERVATION_SIZE c = λ rs r. absurd (asked_short c.pairs.rest.now c.pairs.before (slice_get rs c.args.index) c.if-rest-lt-RESERVATION_SIZE.true (c.pairs.invariant rs r))

pub returns-then-size-eq0 : goal.returns-then-size-eq0
returns-then-size-eq0 c =
    let rest = c.pairs.rest.now in
    let second = c.long-size.ensures ∙ ap (big_number 8) c.behind.ensures in
    let zeros : (c.long-address.result == 0 && c.long-size.result == 0) ≡ true = grind (arith, nat_tests) in
    λ rs r. sym (asked_end rest c.long-address.result c.long-size.result c.pairs.before (slice_get rs c.args.index) c.long-address.ensures second zeros (c.pairs.invariant rs r))

pub returns-then-before-eq0 : goal.returns-then-before-eq0
returns-then-before-eq0 c =
    let rest = c.pairs.rest.now in
    let second = c.long-size.ensures ∙ ap (big_number 8) c.behind.ensures in
    let some : (c.long-address.result == 0 && c.long-size.result == 0) ≡ false =
    elim c.else-address-eq0.branch [
      | else-address-eq0-via-then-address-eq0+else-size-eq0 w ↦ grind (arith, nat_tests)
      | else-address-eq0-via-else-address-eq0 w ↦ grind (arith, nat_tests)
    ] in
    λ rs r. let a = asked_some rest c.long-address.result c.long-size.result c.pairs.before (slice_get rs c.args.index) c.long-address.ensures second some (c.pairs.invariant rs r) in
    at_first (c.long-address.result, c.long-size.result) (a.0) c.pairs.before (slice_get rs c.args.index) c.if-before-eq0.true (a.1)

pub pairs-preserved : goal.pairs-preserved
pairs-preserved c =
    let rest = c.pairs.rest.now in
    let second = c.long-size.ensures ∙ ap (big_number 8) c.behind.ensures in
    let some : (c.long-address.result == 0 && c.long-size.result == 0) ≡ false =
    elim c.else-address-eq0.branch [
      | else-address-eq0-via-then-address-eq0+else-size-eq0 w ↦ grind (arith, nat_tests)
      | else-address-eq0-via-else-address-eq0 w ↦ grind (arith, nat_tests)
    ] in
    λ rs r. let a = asked_some rest c.long-address.result c.long-size.result c.pairs.before (slice_get rs c.args.index) c.long-address.ensures second some (c.pairs.invariant rs r) in
    (a.0, subst (λ (x : List ℕ). Reserves (a.0) x) (sym c.behind-rest.ensures) (a.2), at_later (c.long-address.result, c.long-size.result) (a.0) c.pairs.before _ (slice_get rs c.args.index) (omega arith) (a.1))
