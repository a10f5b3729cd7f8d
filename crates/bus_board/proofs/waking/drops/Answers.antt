use Rattle.std.proofs.Common.{◌≡◌, ◌<◌, ℕ, List, Some, length, get_or, refl, sym, ap, ◌∙◌, subst, arith}
use Rattle.std.specs.Prelude.{slice_get}
use Rattle.std.proofs.lemmas.Option.{slice_get-get_or, get_or_from_slice_get}
use Rattle.bus_plan.specs.Plan.{PlannedDevice, suppliers_of}
use Rattle.bus_board.proofs.Allowed.{check_allowed}
use Rattle.bus_board.proofs.Histories.{supplier_within}
use Rattle.bus_board.proofs.Paying.{checked_more, checked_owing, checked_start, debt_dropped}
use Rattle.bus_board.specs.Lists.{Has}
use Rattle.bus_board.proofs.waking.drops.Goals as goal

-- the supplier in a place
stands : (ss xs : List ℕ) (i x s : ℕ) → xs ≡ ss → i < length xs → x ≡ get_or xs i x → s ≡ x → slice_get ss i ≡ Some s
stands ss xs i x s same lt is at = subst (λ (l : List ℕ). slice_get l i ≡ Some s) same (slice_get-get_or xs i x lt ∙ ap (λ (y : ℕ). Some y) (sym is ∙ sym at))

pub loop-place-init : goal.loop-place-init
loop-place-init c = (refl, refl, checked_start c.args.token.now.me _ c.args.from c.requires.seat.2)

pub load-requires : goal.load-requires
load-requires c =
    let i = c.loop-place.invariant in
    let t = c.requires.table in
    let s : ℕ = c.index.result in
    let m = c.loop-place.token.me in
    let suppliers = c.suppliers-suppliers in
    let at : slice_get (suppliers_of c.args.plan.now c.args.device) c.loop-place.place ≡ Some s = stands _ suppliers.result.now c.loop-place.place c.index-suppliers-place.result s suppliers.ensures
    (omega (arith, c.loop-place-test.true, c.requires.places, ap (length {A = ℕ}) suppliers.ensures)) c.index-suppliers-place.is c.index.ensures in
    let there : Has (suppliers_of c.args.plan.now c.args.device) s = (c.loop-place.place, at) in
    let inside : s < length c.args.plan.now = supplier_within c.args.plan.now c.check.ensures c.args.device s there in
    let o = checked_owing _ _ _ m.0 i.2.paid c.requires.seat.0 c.requires.seat.1 c.requires.owed.1.1 in (
      i.0 ∙ t.0,
      omega (arith, t.2, inside),
      check_allowed _ _ _ m c.args.device s c.requires.owed.1.0 o.live o.owes
          (omega (arith, inside, ap (length {A = PlannedDevice}) t.1)) (subst (λ (p : List PlannedDevice). Has (suppliers_of p c.args.device) s) (sym t.1) there),
    )

pub returns-then-load-ne-BOUND-clause-dropped : goal.returns-then-load-ne-BOUND-clause-dropped
returns-then-load-ne-BOUND-clause-dropped c _ =
    debt_dropped _ c.loop-place.token.me c.load.new.seat.me _ _ c.load.result c.loop-place.invariant.2.paid c.load.ensures.2 c.if-load-ne-BOUND.true

pub loop-place-preserved : goal.loop-place-preserved
loop-place-preserved c =
    let i = c.loop-place.invariant in
    let e = c.load.ensures in
    let suppliers = c.suppliers-suppliers in
    let at = stands _ suppliers.result.now c.loop-place.place c.index-suppliers-place.result c.index.result suppliers.ensures
    (omega (arith, c.loop-place-test.true, c.requires.places, ap (length {A = ℕ}) suppliers.ensures)) c.index-suppliers-place.is c.index.ensures in (
      e.0 ∙ i.0,
      e.2.slots ∙ i.1,
      checked_more _ c.loop-place.token.me c.load.new.seat.me _ c.index.result c.load.result c.args.from c.loop-place.place _ i.2
          (get_or_from_slice_get _ c.loop-place.place c.index.result 0 at) e.2 c.if-load-ne-BOUND.false,
    )
