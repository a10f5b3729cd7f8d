use mathlib.Core.Option.{none}
use Rattle.std.specs.Prelude.{if◌then◌else◌}
use Rattle.std.proofs.Common.{[], ◌++◌, ◌≡◌, ℕ, None, Some, refl, subst, sym, ap, ◌∙◌, arith, length, List}
use Rattle.atomic_table.specs.Table.{Allows, step}
use Rattle.bus_plan.specs.Consumers.{consumers_of}
use Rattle.bus_plan.specs.Plan.{PlannedDevice, verdict_of}
use Rattle.bus_core.specs.History.{is_bound, outcome_by}
use Rattle.bus_core.specs.Step.{settled_reply}
use Rattle.bus_core.specs.declared.refusal.Refusal.TheVariants.{NotReady}
use Rattle.bus_core.specs.declared.settle.Outcome.{Outcome}
use Rattle.bus_board.proofs.Calls.{consumers_fewer, not_seen_all, seen_all, settled_tie, settled_told, settles_as}
use Rattle.bus_board.proofs.Tied.{carried}
use Rattle.bus_board.specs.Learns.{NotSettled, SettledBy}
use Rattle.bus_board.specs.Rule.{Holds}
use Rattle.bus_board.specs.Shown.{Posted, Seated}
use Rattle.bus_board.specs.Steps.{Settles}
use Rattle.bus_board.specs.Views.{debts_of}
use Rattle.bus_board.specs.Words.{end_word}
use Rattle.bus_board.proofs.board.Board.settle.Goals as goal

pub returns-then-not-saw_all-clause-err : goal.returns-then-not-saw_all-clause-err
returns-then-not-saw_all-clause-err c =
    let t = carried _ _ c.in-Some.open _ _ _ c.seat.invariant c.in-Some.is in
    (refl, subst (λ (s : Seated). NotSettled s.view NotReady) c.seat.view_is (not_seen_all _ _ t c.deref.result.now c.deref.ensures.value (c.saw_all.ensures.no c.if-not-saw_all.true)))

pub store-requires : goal.store-requires
store-requires c =
    let m = c.seat.inside.token.me in
    let t = carried _ _ c.in-Some.open _ _ _ c.seat.invariant c.in-Some.is in
    let plan_is : m.0.plan ≡ c.self.inside.plan = ap (λ (x : Seated). x.view.plan) c.seat.view_is ∙ c.requires.1 ∙ sym (ap (λ (x : Posted). x.plan) c.self.view_is) in
    let inv = c.self.invariant in
    let key = c.self.inside.table.shared.key.plan in
    let slots = c.self.inside.table.shared.table_id.slots in
    let new : ℕ = c.end_word.result in
    let word : new ≡ end_word (outcome_by (verdict_of m.0.plan c.in-Some.open.device)) =
    c.end_word.ensures ∙ ap end_word (c.outcome_by-outcome.ensures ∙ ap outcome_by (c.verdict.ensures ∙ ap (λ (p : List PlannedDevice). verdict_of p c.in-Some.open.device) (sym plan_is))) in (
      ap (λ (x : Seated). x.table) c.seat.view_is ∙ c.requires.0 ∙ sym (ap (λ (x : Posted). x.table) c.self.view_is),
      omega (arith, t.within, t.device, ap (length {A = PlannedDevice}) plan_is, inv.1, c.index.ensures),
      subst (λ (d : ℕ). Allows (Holds key) slots c.seat.inside.token.id m d (λ _. new) (λ _. Settles (step slots d new 0 none) m new)) (sym c.index.ensures)
          (settles_as key slots _ m c.in-Some.open new (inv.0 ∙ sym plan_is) t c.seat.invariant.live word
          (seen_all _ _ t c.deref.result.now c.deref.ensures.value (c.saw_all.ensures.yes c.if-not-saw_all.false))),
    )

pub owe-requires : goal.owe-requires
owe-requires c =
    let t = carried _ _ c.in-Some.open _ _ _ c.seat.invariant c.in-Some.is in
    let plan_is : c.seat.inside.token.me.0.plan ≡ c.self.inside.plan = ap (λ (x : Seated). x.view.plan) c.seat.view_is ∙ c.requires.1 ∙ sym (ap (λ (x : Posted). x.plan) c.self.view_is) in
    omega (
      arith,
      c.seat.invariant.roomy (λ none-now. let bad : None ≡ Some c.in-Some.open = sym none-now ∙ c.in-Some.is in absurd (cc)),
      ap (length {A = PlannedDevice}) plan_is,
      consumers_fewer c.self.inside.plan c.in-Some.open.device,
      ap (length {A = ℕ}) c.consumers.ensures,
    )

pub invariant_of-seat : goal.invariant_of-seat
invariant_of-seat c =
    let m = c.seat.inside.token.me in
    let slots = c.self.inside.table.shared.table_id.slots in
    let d : ℕ = c.in-Some.open.device in
    let t = carried _ _ c.in-Some.open _ _ _ c.seat.invariant c.in-Some.is in
    let plan_is : m.0.plan ≡ c.self.inside.plan = ap (λ (x : Seated). x.view.plan) c.seat.view_is ∙ c.requires.1 ∙ sym (ap (λ (x : Posted). x.plan) c.self.view_is) in
    let outcome : c.outcome_by-outcome.result ≡ outcome_by (verdict_of m.0.plan d) = c.outcome_by-outcome.ensures ∙ ap outcome_by (c.verdict.ensures ∙ ap (λ (p : List PlannedDevice). verdict_of p d) (sym plan_is)) in
    let debts : (if is_bound c.outcome_by-outcome.result then c.consumers.result.now else []) ≡ debts_of m.0.plan d =
    ap (λ (l : List ℕ). if is_bound c.outcome_by-outcome.result then l else []) (c.consumers.ensures ∙ ap (λ (p : List PlannedDevice). consumers_of p d) (sym plan_is))
    ∙ ap (λ (o : Outcome). if is_bound o then consumers_of m.0.plan d else []) outcome in
    settled_tie m c.store.new.seat.me slots d c.end_word.result _ _ _ _ _ _ _ c.seat.invariant (omega (arith, t.within, t.device))
    (c.owe.ensures.items ∙ ap (λ (l : List ℕ). c.seat.inside.owed.items ++ l) debts)
    (subst (λ (i : ℕ). Settles (step slots i c.end_word.result 0 none) m c.end_word.result c.store.new.seat.me) c.index.ensures c.store.ensures.2)

pub returns-clause-ok : goal.returns-clause-ok
returns-clause-ok c =
    let m = c.seat.inside.token.me in
    let slots = c.self.inside.table.shared.table_id.slots in
    let d : ℕ = c.in-Some.open.device in
    let t = carried _ _ c.in-Some.open _ _ _ c.seat.invariant c.in-Some.is in
    let plan_is : m.0.plan ≡ c.self.inside.plan = ap (λ (x : Seated). x.view.plan) c.seat.view_is ∙ c.requires.1 ∙ sym (ap (λ (x : Posted). x.plan) c.self.view_is) in
    let outcome : c.outcome_by-outcome.result ≡ outcome_by (verdict_of m.0.plan d) = c.outcome_by-outcome.ensures ∙ ap outcome_by (c.verdict.ensures ∙ ap (λ (p : List PlannedDevice). verdict_of p d) (sym plan_is)) in
    subst (λ (s : Seated). SettledBy s.view c.store.new.seat.me.0 c.reply_of.result) c.seat.view_is
    (settled_told m c.store.new.seat.me slots c.in-Some.open c.end_word.result c.reply_of.result t (c.reply_of.ensures ∙ ap settled_reply outcome)
    (seen_all _ _ t c.deref.result.now c.deref.ensures.value (c.saw_all.ensures.yes c.if-not-saw_all.false))
    (subst (λ (i : ℕ). Settles (step slots i c.end_word.result 0 none) m c.end_word.result c.store.new.seat.me) c.index.ensures c.store.ensures.2))
