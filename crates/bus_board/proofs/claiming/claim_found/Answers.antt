use Rattle.std.proofs.Common.{length, arith, eqb-true, eq-eqb, true≢false, sym, ◌∙◌, ap}
use Rattle.bus_plan.specs.Plan.{PlannedDevice}
use Rattle.bus_board.proofs.Moves.{from_fresh, from_woken}
use Rattle.bus_board.proofs.Walks.{walk_claims, walk_lost, walk_start, walk_tried, walk_won}
use Rattle.bus_board.proofs.claiming.claim_found.Goals as goal

pub compare_exchange-requires : goal.compare_exchange-requires
compare_exchange-requires c = let t = c.requires.table in let s = c.requires.seat in (
  t.0,
  omega (arith, t.2, c.requires.inside),
  walk_claims _ _ _ _ c.args.token.now.me _ c.args.index 0 1 from_fresh (walk_start c.args.token.now.me s.1 s.2 s.3) (omega (arith, c.requires.inside, ap (length {A = PlannedDevice}) t.1)),
)

pub returns-then-found-eq-FRESH-clause-won : goal.returns-then-found-eq-FRESH-clause-won
returns-then-found-eq-FRESH-clause-won c is = let s = c.requires.seat in
    walk_won _ c.args.token.now.me c.compare_exchange.new.seat.me _ c.args.index 0 1 c.compare_exchange.result _ from_fresh (omega (arith, c.requires.inside, ap (length {A = PlannedDevice}) s.0))
    (walk_start c.args.token.now.me s.1 s.2 s.3) c.compare_exchange.ensures.2 (eqb-true c.compare_exchange.result 0 is)

pub returns-then-found-eq-FRESH-clause-lost : goal.returns-then-found-eq-FRESH-clause-lost
returns-then-found-eq-FRESH-clause-lost c miss = let s = c.requires.seat in
    walk_tried _ c.compare_exchange.new.seat.me _ (walk_lost _ c.args.token.now.me c.compare_exchange.new.seat.me _ c.args.index 0 1 c.compare_exchange.result _
    (walk_start c.args.token.now.me s.1 s.2 s.3) c.compare_exchange.ensures.2 (λ e. true≢false (sym (eq-eqb c.compare_exchange.result 0 e) ∙ miss)))

pub compare_exchange-requires-then-found-eq-WOKEN : goal.compare_exchange-requires-then-found-eq-WOKEN
compare_exchange-requires-then-found-eq-WOKEN c = let t = c.requires.table in let s = c.requires.seat in (
  t.0,
  omega (arith, t.2, c.requires.inside),
  walk_claims _ _ _ _ c.args.token.now.me _ c.args.index 3 4 from_woken (walk_start c.args.token.now.me s.1 s.2 s.3) (omega (arith, c.requires.inside, ap (length {A = PlannedDevice}) t.1)),
)

pub returns-then-found-eq-WOKEN-clause-won : goal.returns-then-found-eq-WOKEN-clause-won
returns-then-found-eq-WOKEN-clause-won c is = let s = c.requires.seat in let e = c.compare_exchange-then-found-eq-WOKEN in
    walk_won _ c.args.token.now.me e.new.seat.me _ c.args.index 3 4 e.result _ from_woken (omega (arith, c.requires.inside, ap (length {A = PlannedDevice}) s.0))
    (walk_start c.args.token.now.me s.1 s.2 s.3) e.ensures.2 (eqb-true e.result 3 is)

pub returns-then-found-eq-WOKEN-clause-lost : goal.returns-then-found-eq-WOKEN-clause-lost
returns-then-found-eq-WOKEN-clause-lost c miss = let s = c.requires.seat in let e = c.compare_exchange-then-found-eq-WOKEN in
    walk_tried _ e.new.seat.me _ (walk_lost _ c.args.token.now.me e.new.seat.me _ c.args.index 3 4 e.result _
    (walk_start c.args.token.now.me s.1 s.2 s.3) e.ensures.2 (λ x. true≢false (sym (eq-eqb e.result 3 x) ∙ miss)))
