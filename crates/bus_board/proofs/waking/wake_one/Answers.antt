use Rattle.std.proofs.Common.{◌≡◌, ℕ, List, Some, length, sym, ap, ◌∙◌, subst, arith, eqb}
use Rattle.std.proofs.lemmas.Option.{get_or_from_slice_get, slice_get_within}
use mathlib.Core.Option.{none}
use prog.Atomic.{either}
use Rattle.atomic_table.specs.Table.{Allows, step}
use Rattle.bus_plan.specs.Plan.{PlannedDevice, suppliers_of}
use Rattle.bus_core.specs.declared.settle.Outcome.TheVariants.{Bound}
use Rattle.bus_board.proofs.Allowed.{wake_allowed}
use Rattle.bus_board.proofs.Paying.{all_checked, checked_owing, debt_woken, paid_again}
use Rattle.bus_board.specs.Lists.{Has}
use Rattle.bus_board.specs.Outcomes.{outcome_of}
use Rattle.bus_board.specs.Rule.{Holds}
use Rattle.bus_board.specs.Steps.{Wakes}
use Rattle.bus_board.proofs.waking.wake_one.Goals as goal

pub compare_exchange-requires : goal.compare_exchange-requires
compare_exchange-requires c =
    let t = c.requires.table in
    let m = c.drops-2.new.token.me in
    let first = c.drops.ensures.bound c.if-drops.false in
    let second = c.drops-2.ensures.bound c.if-drops-2.false in
    let ss = suppliers_of c.args.plan.now c.args.device in
    let all = all_checked _ _ m.0 ss c.least-start.result _ first second (omega (arith, ap (length {A = ℕ}) c.suppliers-count.ensures)) in
    let o = checked_owing _ _ _ m.0 (paid_again _ _ _ first.paid second.paid) c.requires.seat.0 c.requires.seat.1 c.requires.owed.1.1 in
    let key = c.args.table.now.shared.key.plan in
    let slots = c.args.table.now.shared.table_id.slots in
    let A : ℕ → Type 0 = λ d. Allows (Holds key) slots c.drops-2.new.token.id m d (λ n. either (eqb n 2) 3 n) (Wakes (step slots d 2 3 none) m) in (
      c.drops-2.ensures.same.0 ∙ c.drops.ensures.same.0 ∙ t.0,
      omega (arith, t.2, c.requires.owed.0, c.index-2.ensures),
      subst A (sym c.index-2.ensures) (wake_allowed key slots _ m c.args.device c.requires.owed.1.0 o.live o.owes
          (omega (arith, ap (length {A = PlannedDevice}) t.1, c.requires.owed.0))
          (λ s there.
          let has : Has ss s = subst (λ (p : List PlannedDevice). Has (suppliers_of p c.args.device) s) t.1 there in
          subst (λ (x : ℕ). outcome_of m.0.seen x ≡ Some Bound) (get_or_from_slice_get ss has.0 s 0 has.1) (all has.0 (slice_get_within ss has.0 s has.1)))),
    )

pub returns-then-compare_exchange-eq-WAITING-clause-dropped : goal.returns-then-compare_exchange-eq-WAITING-clause-dropped
returns-then-compare_exchange-eq-WAITING-clause-dropped c =
    debt_woken _ c.drops-2.new.token.me c.compare_exchange.new.seat.me _ _ c.compare_exchange.result
    (paid_again _ _ _ (c.drops.ensures.bound c.if-drops.false).paid (c.drops-2.ensures.bound c.if-drops-2.false).paid) c.compare_exchange.ensures.2

pub returns-else-compare_exchange-eq-WAITING-clause-dropped : goal.returns-else-compare_exchange-eq-WAITING-clause-dropped
returns-else-compare_exchange-eq-WAITING-clause-dropped c =
    debt_woken _ c.drops-2.new.token.me c.compare_exchange.new.seat.me _ _ c.compare_exchange.result
    (paid_again _ _ _ (c.drops.ensures.bound c.if-drops.false).paid (c.drops-2.ensures.bound c.if-drops-2.false).paid) c.compare_exchange.ensures.2
