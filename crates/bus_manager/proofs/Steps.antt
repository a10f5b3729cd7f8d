-- What a keeper's events keep.
use Rattle.std.proofs.Common.{◌≡◌, inl, inr, ℕ, ◌+◌, ◌-◌, ◌<◌, Bool, true, false, not, ◌&&◌, ◌||◌, List, [], ◌∷◌, ◌++◌, Option, Some, None, length, eqb, cond, set, get_or, refl, sym, ap, ◌∙◌, eq-eqb, ne_eqb, arith, length-set}
use Rattle.std.specs.Prelude.{is_some, count_by}
use Rattle.std.proofs.lemmas.Bool.{and_parts, or_parts, not-true, or_right, cases_eq}
use Rattle.std.proofs.lemmas.List.{length-replicate}
use Rattle.std.proofs.lemmas.List.Sums.{sum_by-set}
use Rattle.std.proofs.lemmas.List.Folds.{sum_by-replicate}
use Rattle.std.proofs.lemmas.List.Elements.{All-push, All-nil}
use Rattle.bus_plan.specs.Plan.{PlannedDevice, is_matched, is_driver_name}
use Rattle.bus_core.specs.declared.event.Event.{Event}
use Rattle.bus_core.specs.declared.event.Event.TheVariants.{Begin, Finish, Abandon, Register}
use Rattle.bus_core.specs.declared.event.Report.{Report}
use Rattle.bus_core.specs.declared.event.Report.TheVariants.{Settled, Missing}
use Rattle.bus_core.specs.declared.event.Reply.TheVariants as reply
use Rattle.bus_core.specs.declared.settle.Outcome.{Outcome}
use Rattle.bus_core.specs.declared.settle.Outcome.TheVariants as outcome
use Rattle.bus_core.specs.Due.{is_due, is_idle}
use Rattle.bus_core.specs.History.{bound_in, is_bound, is_settled, outcome_by}
use Rattle.bus_core.specs.Ready.{is_ready}
use Rattle.bus_core.specs.declared.event.Ticket.{Ticket}
use Rattle.bus_core.specs.declared.refusal.Refusal.TheVariants.{NotInFlight}
use Rattle.bus_core.proofs.LateLemmas.{late-long}
use Rattle.bus_core.proofs.ReplayLemmas.{event-long}
use Rattle.bus_core.proofs.ReachedLemmas.{attempt-flying}
use Rattle.bus_core.specs.Step.{begin_refusal, begin_state, finish_state, finish_reply, finish_refusal, abandon_refusal, report_refusal, settled_reply, settle_of, without_flight, is_attempt, register_refusal, registered_core}
use Rattle.bus_plan.specs.Plan.{verdict_of}
use Rattle.bus_core.proofs.HistoryLemmas.{bound_in-push, matched-below}
use Rattle.bus_core.specs.CoreState.{CoreValue, CoreState, Flight, flight_of, is_in_flight, was_begun, first_core, first_state}
use Rattle.bus_core.specs.Replay.{event_refusal, event_core, IsEventOf}
use Rattle.bus_manager.specs.Events.{is_begin, is_register, is_of_due}
use Rattle.bus_manager.specs.Keeper.{KeeperValue, IsKept, core_of, first_keeper}
use Rattle.bus_manager.specs.Private.KeeperView.{IsBounded, IsSoundKeeper}
use Rattle.bus_manager.specs.Seen.{sees}
use Rattle.bus_manager.specs.Private.Seen.{IsSeenAfter}
use Rattle.bus_manager.proofs.Bounds.{begin-bounded, abandon-bounded, missing-bounded, settled-bounded, registered-bounded, or-false, cond-none}
use Rattle.bus_manager.proofs.Begins.{count-push, no-count, one-count}
use Rattle.bus_manager.proofs.ReplayEnd.{replay-push, due-push}

abbrev pub with_event : KeeperValue → Event → KeeperValue
with_event k e =
    let core = event_core (core_of k) e
    in record { plan = core.plan; state = core.state; events = k.events ++ e ∷ [] }

-- an event other than a late driver keeps the plan
plan-stays : (core : CoreValue) (e : Event) → cond {A = ℕ} (is_register e) 1 0 ≡ 0 → (event_core core e).plan ≡ core.plan
plan-stays core (Begin d) none = refl
plan-stays core (Finish d report) none = refl
plan-stays core (Abandon d) none = refl
plan-stays core (Register name strings) none = absurd (omega (arith, none))

-- an event that the core accepts
pub event-kept : (k : KeeperValue) (e : Event) (kept : IsKept k) → event_refusal (core_of k) e ≡ None → is_of_due (core_of k) e ≡ true → IsEventOf kept.first e
    → ((d : ℕ) → IsBounded (event_core (core_of k) e).plan (event_core (core_of k) e).state (k.events ++ e ∷ []) d)
    → (event_core (core_of k) e).state.begins ≡ k.state.begins + cond {A = ℕ} (is_begin e) 1 0
    → length (event_core (core_of k) e).state.flights ≡ length k.state.flights
    → IsKept (with_event k e)
event-kept k e kept allowed due within bounded counted long =
    let same = event-long (core_of k) e
    in record {
      first = kept.first;
      replayed = replay-push 0 (first_core kept.first) (core_of k) k.events e kept.replayed allowed;
      due = due-push 0 (first_core kept.first) (core_of k) k.events e kept.replayed kept.due due;
      begins = λ d. (bounded d).top;
      unregistered = λ none.
          let n = count-push is_register k.events e
          in plan-stays (core_of k) e (omega (arith, n, none)) ∙ kept.unregistered (omega (arith, n, none));
      long = same ∙ kept.long;
      within = All-push (IsEventOf kept.first) k.events e kept.within within;
      counted = counted ∙ ap (λ n. n + cond {A = ℕ} (is_begin e) 1 0) kept.counted ∙ sym (count-push is_begin k.events e);
      places = long ∙ kept.places ∙ sym same;
    }

pub first-kept : (plan : List PlannedDevice) → IsKept (first_keeper plan)
first-kept plan = record { first = plan; replayed = refl; due = refl; begins = λ d. omega arith; unregistered = λ _. refl; long = refl; within = All-nil (IsEventOf plan); counted = refl; places = length-replicate (length plan) None }

pub first-bounded : (plan : List PlannedDevice) (d : ℕ) → IsBounded plan (first_state plan) [] d
first-bounded plan d = record { top = omega arith; low = λ _. omega arith; fresh = λ _. refl }

abbrev weight : Option Flight → ℕ
weight flight = cond (is_some flight) 1 0

-- flights counted, when one place of them changes
pub flights-set : (flights : List (Option Flight)) (d : ℕ) (x : Option Flight) → d < length flights
    → count_by is_some (set flights d x) + cond {A = ℕ} (is_some (get_or flights d None)) 1 0 ≡ count_by is_some flights + cond {A = ℕ} (is_some x) 1 0
flights-set flights d x within = sum_by-set weight flights d x None within

pub first-sound : (plan : List PlannedDevice) (core : CoreValue) (events : List Event) (bound : List ℕ) → core ≡ record { plan = plan; state = first_state plan } → events ≡ [] → ((d : ℕ) → sees bound d ≡ false) → IsSoundKeeper core events bound 0
first-sound plan core events bound core-is none empty = coe 1 0 (i. IsSoundKeeper (core-is i) (none i) bound 0) (record {
  kept = first-kept plan;
  bounded = first-bounded plan;
  bound_is = empty;
  begun = length-replicate (length plan) false;
  flying_is = sym (sum_by-replicate weight (length plan) None ∙ omega arith);
})

pub begun-sound : (core : CoreValue) (events : List Event) (bound : List ℕ) (flying d : ℕ)
    → is_due core.plan core.state d ≡ true → begin_refusal core.plan core.state d ≡ None → IsSoundKeeper core events bound flying
    → IsSoundKeeper (record { plan = core.plan; state = begin_state core.state d }) (events ++ Begin d ∷ []) bound (flying + 1)
begun-sound core events bound flying d due allowed sound =
    let parts = and_parts (is_matched core.plan d) (is_idle core.state d && (not (was_begun core.state d) || is_ready core.plan (bound_in core.state.history) d)) due
    in let within : d < length core.plan = matched-below core.plan d parts.0
    in let idle = or_parts (is_in_flight core.state d) (is_settled core.state.history d) (not-true (is_in_flight core.state d || is_settled core.state.history d)
    (and_parts (is_idle core.state d) (not (was_begun core.state d) || is_ready core.plan (bound_in core.state.history) d) parts.1).0)
    in let bounded = λ (e : ℕ). begin-bounded core.plan core.state events d e (omega (arith, sound.kept.places)) (omega (arith, sound.begun)) due (sound.bounded e)
    in let flight : Option Flight = Some (record { attempt = core.state.begins + 1; settled = length core.state.history })
    in record {
      kept = event-kept (record { plan = core.plan; state = core.state; events = events }) (Begin d) sound.kept allowed due (omega (arith, within, sound.kept.long)) bounded (omega arith) (length-set core.state.flights d flight);
      bounded = bounded;
      bound_is = sound.bound_is;
      begun = length-set core.state.begun d true ∙ sound.begun;
      flying_is =
          let e = flights-set core.state.flights d flight (omega (arith, sound.kept.places))
          in let none = no-count (is_in_flight core.state d) idle.0
          in omega (arith, sound.flying_is, e, none);
    }

-- the flights after one of them ended
landed : (flights : List (Option Flight)) (d n : ℕ) → d < length flights → is_some (get_or flights d None) ≡ true → n ≡ count_by is_some flights → n - 1 ≡ count_by is_some (set flights d None)
landed flights d n within flying is =
    let e = flights-set flights d None within
    in let one = one-count (is_some (get_or flights d None)) flying
    in omega (arith, e, one, is)

pub abandoned-sound : (core : CoreValue) (events : List Event) (bound : List ℕ) (flying d : ℕ)
    → d < length core.plan → abandon_refusal core.state d ≡ None → IsSoundKeeper core events bound flying
    → IsSoundKeeper (record { plan = core.plan; state = without_flight core.state d }) (events ++ Abandon d ∷ []) bound (flying - 1)
abandoned-sound core events bound flying d within allowed sound =
    let aloft = (cond-none (is_in_flight core.state d) _ _ allowed).0
    in let bounded = λ (e : ℕ). abandon-bounded core.plan core.state events d e (sound.bounded e)
    in record {
      kept = event-kept (record { plan = core.plan; state = core.state; events = events }) (Abandon d) sound.kept allowed refl (omega (arith, within, sound.kept.long)) bounded (omega arith) (length-set core.state.flights d None);
      bounded = bounded;
      bound_is = sound.bound_is;
      begun = sound.begun;
      flying_is = landed core.state.flights d flying (omega (arith, sound.kept.places)) aloft sound.flying_is;
    }

-- the set after a settle
seen-settled : (bound after : List ℕ) (d e : ℕ) (o : Outcome) → IsSeenAfter bound after d (settled_reply o) → sees after e ≡ (sees bound e || (is_bound o && eqb d e))
seen-settled bound after d e outcome.Failed same = ap (λ s. sees s e) same ∙ sym (or-false (sees bound e) false refl)
seen-settled bound after d e outcome.Bound put = elim (cases_eq d e) [
  | inl same ↦ ap (sees after) (sym same) ∙ put.here ∙ sym (or_right (sees bound e) (eqb d e) (eq-eqb d e same))
  | inr other ↦ put.others e (λ q. other (sym q)) ∙ sym (or-false (sees bound e) (eqb d e) (ne_eqb d e other))
]

seen-waiting : (bound after : List ℕ) (d : ℕ) (due : Bool) → IsSeenAfter bound after d (cond due reply.Again reply.Waiting) → after ≡ bound
seen-waiting bound after d true same = same
seen-waiting bound after d false same = same

-- a finish is an event of a schedule
pub finish-allowed : (plan : List PlannedDevice) (s : CoreState) (d : ℕ) (report : Report) → is_in_flight s d ≡ true → report_refusal plan s d report ≡ None → event_refusal (record { plan = plan; state = s }) (Finish d report) ≡ None
finish-allowed plan s d report aloft allowed = ap (λ b. cond (not b) (Some NotInFlight) (report_refusal plan s d report)) aloft ∙ allowed

finished-by : (core : CoreValue) (events : List Event) (bound after : List ℕ) (flying d : ℕ) (report : Report)
    → d < length core.plan → is_in_flight core.state d ≡ true → report_refusal core.plan core.state d report ≡ None → IsSeenAfter bound after d (finish_reply core.plan (finish_state core.plan core.state d report) d report)
    → IsSoundKeeper core events bound flying → IsSoundKeeper (record { plan = core.plan; state = finish_state core.plan core.state d report }) (events ++ Finish d report ∷ []) after (flying - 1)
finished-by core events bound after flying d Settled within aloft allowed seen sound =
    let o = outcome_by (verdict_of core.plan d)
    in let bounded = λ (e : ℕ). settled-bounded core.plan core.state events d e (sound.bounded e)
    in record {
      kept = event-kept (record { plan = core.plan; state = core.state; events = events }) (Finish d Settled) sound.kept (finish-allowed core.plan core.state d Settled aloft allowed) refl (omega (arith, within, sound.kept.long)) bounded (omega arith) (length-set core.state.flights d None);
      bounded = bounded;
      bound_is = λ e. seen-settled bound after d e o seen ∙ ap (λ b. b || (is_bound o && eqb d e)) (sound.bound_is e) ∙ sym (bound_in-push core.state.history (settle_of core.plan d) e);
      begun = sound.begun;
      flying_is = landed core.state.flights d flying (omega (arith, sound.kept.places)) aloft sound.flying_is;
    }
finished-by core events bound after flying d (Missing supplier) within aloft allowed seen sound =
    let bounded = λ (e : ℕ). missing-bounded core.plan core.state events d supplier e allowed (sound.bounded e)
    in let same = seen-waiting bound after d (is_due core.plan (without_flight core.state d) d) seen
    in record {
      kept = event-kept (record { plan = core.plan; state = core.state; events = events }) (Finish d (Missing supplier)) sound.kept (finish-allowed core.plan core.state d (Missing supplier) aloft allowed) refl (omega (arith, within, sound.kept.long)) bounded (omega arith) (length-set core.state.flights d None);
      bounded = bounded;
      bound_is = λ e. ap (λ b. sees b e) same ∙ sound.bound_is e;
      begun = sound.begun;
      flying_is = landed core.state.flights d flying (omega (arith, sound.kept.places)) aloft sound.flying_is;
    }

pub finished-sound : (core : CoreValue) (events : List Event) (bound after : List ℕ) (flying : ℕ) (ticket : Ticket) (report : Report)
    → ticket.device < length core.plan → finish_refusal core.plan core.state ticket report ≡ None → IsSeenAfter bound after ticket.device (finish_reply core.plan (finish_state core.plan core.state ticket.device report) ticket.device report)
    → IsSoundKeeper core events bound flying → IsSoundKeeper (record { plan = core.plan; state = finish_state core.plan core.state ticket.device report }) (events ++ Finish ticket.device report ∷ []) after (flying - 1)
finished-sound core events bound after flying ticket report within allowed seen sound =
    let parts = cond-none (is_attempt (flight_of core.state ticket.device) ticket.attempt) _ _ allowed
    in finished-by core events bound after flying ticket.device report within (attempt-flying (flight_of core.state ticket.device) ticket.attempt parts.0) parts.1 seen sound

pub registered-sound : (core : CoreValue) (events : List Event) (bound : List ℕ) (flying : ℕ) (name : List ℕ) (strings : List (List ℕ))
    → is_driver_name name ≡ true → register_refusal core.plan core.state name ≡ None → IsSoundKeeper core events bound flying
    → IsSoundKeeper (registered_core core name strings) (events ++ Register name strings ∷ []) bound flying
registered-sound core events bound flying name strings named allowed sound =
    let bounded = λ (e : ℕ). registered-bounded core.plan core.state events name strings e (sound.bounded e)
    in record {
      kept = event-kept (record { plan = core.plan; state = core.state; events = events }) (Register name strings) sound.kept allowed refl named bounded (omega arith) refl;
      bounded = bounded;
      bound_is = sound.bound_is;
      begun = sound.begun ∙ sym (late-long core.plan name strings);
      flying_is = sound.flying_is;
    }
