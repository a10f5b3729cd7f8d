use Rattle.std.proofs.Common.{length, refl, sym, ap, ◌∙◌, subst, arith}
use Rattle.bus_plan.specs.Plan.{PlannedDevice}
use Rattle.bus_board.proofs.Moves.{from_fresh, from_woken}
use Rattle.bus_board.proofs.Walks.{walk_claims, walk_end, walk_lost, walk_on, walk_start, walk_won}
use Rattle.bus_board.specs.Learns.{Claimed}
use Rattle.bus_board.proofs.claiming.claim_any.Goals as goal

pub loop-index-init : goal.loop-index-init
loop-index-init c = let s = c.requires.seat in (refl, refl, walk_start c.args.token.now.me s.1 s.2 s.3)

pub compare_exchange-requires : goal.compare_exchange-requires
compare_exchange-requires c =
    let i = c.loop-index.invariant in let t = c.requires.table in (
      i.0 ∙ t.0,
      omega (arith, c.len-index-end.ensures, c.loop-index-test.true, t.2),
      walk_claims _ _ _ _ c.loop-index.token.me _ c.loop-index.index 0 1 from_fresh i.2 (omega (arith, c.len-index-end.ensures, c.loop-index-test.true, ap (length {A = PlannedDevice}) t.1)),
    )

pub returns-then-compare_exchange-eq-FRESH-clause-same : goal.returns-then-compare_exchange-eq-FRESH-clause-same
returns-then-compare_exchange-eq-FRESH-clause-same c =
    let i = c.loop-index.invariant in let e = c.compare_exchange.ensures in (e.0 ∙ i.0, e.2.slots ∙ i.1)

pub returns-then-compare_exchange-eq-FRESH-clause-claimed : goal.returns-then-compare_exchange-eq-FRESH-clause-claimed
returns-then-compare_exchange-eq-FRESH-clause-claimed c =
    let i = c.loop-index.invariant in
    subst (Claimed c.args.token.now.me.0 c.compare_exchange.new.seat.me.0) (sym c.new.ensures) (walk_won _ c.loop-index.token.me c.compare_exchange.new.seat.me _ c.loop-index.index 0 1 c.compare_exchange.result _ from_fresh
    (omega (arith, c.len-index-end.ensures, c.loop-index-test.true, ap (length {A = PlannedDevice}) c.requires.seat.0)) i.2 c.compare_exchange.ensures.2 c.if-compare_exchange-eq-FRESH.true)

pub compare_exchange-requires-in-loop-index : goal.compare_exchange-requires-in-loop-index
compare_exchange-requires-in-loop-index c =
    let i = c.loop-index.invariant in let t = c.requires.table in let e = c.compare_exchange.ensures in
    let lost = walk_lost _ c.loop-index.token.me c.compare_exchange.new.seat.me _ c.loop-index.index 0 1 c.compare_exchange.result _ i.2 e.2 c.if-compare_exchange-eq-FRESH.false in (
      e.0 ∙ i.0 ∙ t.0,
      omega (arith, c.len-index-end.ensures, c.loop-index-test.true, t.2),
      walk_claims _ _ _ _ c.compare_exchange.new.seat.me _ c.loop-index.index 3 4 from_woken lost (omega (arith, c.len-index-end.ensures, c.loop-index-test.true, ap (length {A = PlannedDevice}) t.1)),
    )

pub returns-then-compare_exchange-eq-WOKEN-clause-same : goal.returns-then-compare_exchange-eq-WOKEN-clause-same
returns-then-compare_exchange-eq-WOKEN-clause-same c =
    let i = c.loop-index.invariant in let e = c.compare_exchange.ensures in let f = c.compare_exchange-in-loop-index.ensures in
    (f.0 ∙ e.0 ∙ i.0, f.2.slots ∙ e.2.slots ∙ i.1)

pub returns-then-compare_exchange-eq-WOKEN-clause-claimed : goal.returns-then-compare_exchange-eq-WOKEN-clause-claimed
returns-then-compare_exchange-eq-WOKEN-clause-claimed c =
    let i = c.loop-index.invariant in let e = c.compare_exchange.ensures in
    let lost = walk_lost _ c.loop-index.token.me c.compare_exchange.new.seat.me _ c.loop-index.index 0 1 c.compare_exchange.result _ i.2 e.2 c.if-compare_exchange-eq-FRESH.false in
    subst (Claimed c.args.token.now.me.0 c.compare_exchange-in-loop-index.new.seat.me.0) (sym c.new-then-compare_exchange-eq-WOKEN.ensures) (walk_won _ c.compare_exchange.new.seat.me c.compare_exchange-in-loop-index.new.seat.me _ c.loop-index.index 3 4 c.compare_exchange-in-loop-index.result _ from_woken
    (omega (arith, c.len-index-end.ensures, c.loop-index-test.true, ap (length {A = PlannedDevice}) c.requires.seat.0)) lost c.compare_exchange-in-loop-index.ensures.2 c.if-compare_exchange-eq-WOKEN.true)

pub loop-index-preserved : goal.loop-index-preserved
loop-index-preserved c =
    let i = c.loop-index.invariant in let e = c.compare_exchange.ensures in let f = c.compare_exchange-in-loop-index.ensures in
    let first = walk_lost _ c.loop-index.token.me c.compare_exchange.new.seat.me _ c.loop-index.index 0 1 c.compare_exchange.result _ i.2 e.2 c.if-compare_exchange-eq-FRESH.false in
    let second = walk_lost _ c.compare_exchange.new.seat.me c.compare_exchange-in-loop-index.new.seat.me _ c.loop-index.index 3 4 c.compare_exchange-in-loop-index.result _ first f.2 c.if-compare_exchange-eq-WOKEN.false in
    (f.0 ∙ e.0 ∙ i.0, f.2.slots ∙ e.2.slots ∙ i.1, walk_on _ _ c.loop-index.index second)

pub returns-clause-same : goal.returns-clause-same
returns-clause-same c = let i = c.loop-index.invariant in (i.0, i.1)

pub returns-clause-none : goal.returns-clause-none
returns-clause-none c = let i = c.loop-index.invariant in
    walk_end _ _ c.loop-index.index i.2 (omega (arith, c.len-index-end.ensures, c.loop-index-test.false, c.loop-index.auto.index-end, ap (length {A = PlannedDevice}) c.requires.seat.0))
