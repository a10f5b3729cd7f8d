use Rattle.std.proofs.Common.{◌≡◌, ◌+◌, ◌-◌, false, true, ◌&&◌, ◌==◌, Some, sym, subst, ap, ◌∙◌, arith, length, length-drop, drop, List, ℕ}
use Rattle.std.proofs.lemmas.Bool.Decides.{nat_tests}
use Rattle.byteorder.specs.Endian.{big_number}
use Rattle.dt_patch.specs.View.Reserved.{reserved_size}
use Rattle.dt_patch.proofs.ViewLemmas.Pairs.{Sized, sized_short, sized_end, sized_some}
use Rattle.dt_patch.proofs.view.reserves.reserved_size_in.Goals as goal
use Rattle.dt_patch.proofs.view.reserves.reserved_size_in.Goals.{else-address-eq0-via-then-address-eq0+else-size-eq0, else-address-eq0-via-else-address-eq0}

pub returns-then-rest-lt-RESERVATION_SIZE-clause-size : goal.returns-then-rest-lt-RESERVATION_SIZE-clause-size
returns-then-rest-lt-RESERVATION_SIZE-clause-size c = λ rs r.
    absurd (sized_short c.pairs.rest.now (length c.args.bytes.now - length c.pairs.rest.now) (reserved_size rs) c.if-rest-lt-RESERVATION_SIZE.true (c.pairs.invariant.sized rs r))

pub returns-then-size-eq0-clause-size : goal.returns-then-size-eq0-clause-size
returns-then-size-eq0-clause-size c =
    let rest = c.pairs.rest.now in
    let second = c.long-size.ensures ∙ ap (big_number 8) c.behind.ensures in
    let zeros : (c.long-address.result == 0 && c.long-size.result == 0) ≡ true = grind (arith, nat_tests) in
    let left : length c.behind-rest.result.now ≡ length rest - 16 = ap length c.behind-rest.ensures ∙ length-drop 16 rest in
    let wide = c.if-rest-lt-RESERVATION_SIZE.false in
    let shorter = c.pairs.invariant.shorter in
    λ rs r.
    let e = sized_end rest c.long-address.result c.long-size.result (length c.args.bytes.now - length rest) (reserved_size rs) c.long-address.ensures second zeros (c.pairs.invariant.sized rs r) in
    ap Some (omega (arith, e, left, wide, shorter))

pub pairs-preserved : goal.pairs-preserved
pairs-preserved c =
    let rest = c.pairs.rest.now in
    let second = c.long-size.ensures ∙ ap (big_number 8) c.behind.ensures in
    let some : (c.long-address.result == 0 && c.long-size.result == 0) ≡ false =
    elim c.else-address-eq0.branch [
      | else-address-eq0-via-then-address-eq0+else-size-eq0 w ↦ grind (arith, nat_tests)
      | else-address-eq0-via-else-address-eq0 w ↦ grind (arith, nat_tests)
    ] in
    let left : length c.behind-rest.result.now ≡ length rest - 16 = ap length c.behind-rest.ensures ∙ length-drop 16 rest in
    let wide = c.if-rest-lt-RESERVATION_SIZE.false in
    let shorter = c.pairs.invariant.shorter in
    let passed : length c.args.bytes.now - length rest + 16 ≡ length c.args.bytes.now - length c.behind-rest.result.now = omega (arith, left, wide, shorter) in
    record {
      sized = λ rs r.
          let s = sized_some rest c.long-address.result c.long-size.result (length c.args.bytes.now - length rest) (reserved_size rs) c.long-address.ensures second some (c.pairs.invariant.sized rs r) in
          subst (λ (x : List ℕ). Sized x (length c.args.bytes.now - length c.behind-rest.result.now) (reserved_size rs)) (sym c.behind-rest.ensures) (subst (λ (n : ℕ). Sized (drop 16 rest) n (reserved_size rs)) passed s);
      shorter = omega (arith, left, shorter);
    }
