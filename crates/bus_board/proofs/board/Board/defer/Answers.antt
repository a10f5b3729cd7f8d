use mathlib.Core.Option.{none}
use Rattle.std.proofs.Common.{◌≡◌, ℕ, None, Some, refl, subst, sym, ap, ◌∙◌, arith, length}
use Rattle.atomic_table.specs.Table.{Allows, step}
use Rattle.bus_plan.specs.Plan.{PlannedDevice}
use Rattle.bus_core.specs.declared.refusal.Refusal.TheVariants.{WasBound}
use Rattle.bus_board.proofs.Calls.{deferred_tie, deferred_told, defers_as, found_look, no_look}
use Rattle.bus_board.proofs.Tied.{carried}
use Rattle.bus_board.specs.Learns.{DeferredOn, NotDeferred}
use Rattle.bus_board.specs.Rule.{Holds}
use Rattle.bus_board.specs.Shown.{Posted, Seated}
use Rattle.bus_board.specs.Steps.{Defers}
use Rattle.bus_board.proofs.board.Board.defer.Goals as goal

pub returns-in_default-find_look-clause-err : goal.returns-in_default-find_look-clause-err
returns-in_default-find_look-clause-err c =
    let t = carried _ _ c.in-Some.open _ _ _ c.seat.invariant c.in-Some.is in (
      refl,
      subst (λ (s : Seated). NotDeferred s.view c.args.supplier WasBound) c.seat.view_is
          (t.flight, t.is, λ there. absurd (no_look _ _ t c.deref.result.now c.deref.ensures.value c.args.supplier c.in_default-find_look.ensures there)),
    )

pub returns-then-not-missed-clause-err : goal.returns-then-not-missed-clause-err
returns-then-not-missed-clause-err c =
    let t = carried _ _ c.in-Some.open _ _ _ c.seat.invariant c.in-Some.is in
    let f = found_look _ _ t c.deref.result.now c.deref.ensures.value c.args.supplier _ c.in-Some-find_look.ensures in (
      refl,
      subst (λ (s : Seated). NotDeferred s.view c.args.supplier WasBound) c.seat.view_is
          (t.flight, t.is, λ there missed. c.missed.ensures.no c.if-not-missed.true (sym f.1 ∙ missed)),
    )

pub store-requires : goal.store-requires
store-requires c =
    let m = c.seat.inside.token.me in
    let t = carried _ _ c.in-Some.open _ _ _ c.seat.invariant c.in-Some.is in
    let f = found_look _ _ t c.deref.result.now c.deref.ensures.value c.args.supplier _ c.in-Some-find_look.ensures in
    let plan_is : m.0.plan ≡ c.self.inside.plan = ap (λ (x : Seated). x.view.plan) c.seat.view_is ∙ c.requires.1 ∙ sym (ap (λ (x : Posted). x.plan) c.self.view_is) in
    let inv = c.self.invariant in
    let key = c.self.inside.table.shared.key.plan in
    let slots = c.self.inside.table.shared.table_id.slots in (
      ap (λ (x : Seated). x.table) c.seat.view_is ∙ c.requires.0 ∙ sym (ap (λ (x : Posted). x.table) c.self.view_is),
      omega (arith, t.within, t.device, ap (length {A = PlannedDevice}) plan_is, inv.1, c.index.ensures),
      subst (λ (d : ℕ). Allows (Holds key) slots c.seat.inside.token.id m d (λ _. 2) (λ _. Defers (step slots d 2 0 none) m 2)) (sym c.index.ensures)
          (defers_as key slots _ m c.in-Some.open c.args.supplier (inv.0 ∙ sym plan_is) t c.seat.invariant.live f.0 (f.1 ∙ c.missed.ensures.yes c.if-not-missed.false)),
    )

pub push_reserved-requires : goal.push_reserved-requires
push_reserved-requires c =
    let t = carried _ _ c.in-Some.open _ _ _ c.seat.invariant c.in-Some.is in
    omega (arith, t.within, c.seat.invariant.roomy (λ none-now. let bad : None ≡ Some c.in-Some.open = sym none-now ∙ c.in-Some.is in absurd (cc)))

pub invariant_of-seat : goal.invariant_of-seat
invariant_of-seat c =
    let m = c.seat.inside.token.me in
    let slots = c.self.inside.table.shared.table_id.slots in
    let t = carried _ _ c.in-Some.open _ _ _ c.seat.invariant c.in-Some.is in
    deferred_tie m c.store.new.seat.me slots c.in-Some.open.device _ _ _ _ _ _ _ c.seat.invariant (omega (arith, t.within, t.device)) c.push_reserved.ensures.items
    (subst (λ (d : ℕ). Defers (step slots d 2 0 none) m 2 c.store.new.seat.me) c.index.ensures c.store.ensures.2)

pub returns-clause-ok : goal.returns-clause-ok
returns-clause-ok c =
    let m = c.seat.inside.token.me in
    let slots = c.self.inside.table.shared.table_id.slots in
    let t = carried _ _ c.in-Some.open _ _ _ c.seat.invariant c.in-Some.is in
    let f = found_look _ _ t c.deref.result.now c.deref.ensures.value c.args.supplier _ c.in-Some-find_look.ensures in
    subst (λ (s : Seated). DeferredOn s.view c.store.new.seat.me.0 c.args.supplier) c.seat.view_is
    (deferred_told m c.store.new.seat.me slots c.args.supplier c.in-Some.open t f.0 (f.1 ∙ c.missed.ensures.yes c.if-not-missed.false)
    (subst (λ (d : ℕ). Defers (step slots d 2 0 none) m 2 c.store.new.seat.me) c.index.ensures c.store.ensures.2))
