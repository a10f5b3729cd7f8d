-- Every list of events leads to a history of the sequential bus.
use Rattle.std.proofs.Common.{◌≡◌, inl, inr, ℕ, ◌+◌, Bool, true, false, not, ◌||◌, List, [], ◌∷◌, Option, Some, None, length, eqb, cond, refl, sym, ap, ◌∙◌, subst, true≢false, ne_eqb}
use Rattle.std.specs.Prelude.{is_none, is_some, slice_index_or, replicate}
use Rattle.std.proofs.lemmas.Bool.{or_parts, or_from, not-true, cases_lt}
use Rattle.std.proofs.lemmas.List.{get_or-replicate, get_or_past, length-replicate}
use Rattle.bus_plan.specs.Plan.{PlannedDevice, is_matched}
use Rattle.bus_core.specs.declared.event.Report.{Report}
use Rattle.bus_core.specs.declared.event.Report.TheVariants.{Settled, Missing}
use Rattle.bus_core.specs.declared.refusal.Refusal.{Refusal}
use Rattle.bus_core.specs.CoreState.{CoreState, CoreValue, Flight, flight_of, is_in_flight, first_core, with_state}
use Rattle.bus_core.specs.Due.{is_idle}
use Rattle.bus_core.specs.History.{bound_in, is_settled, IsBusHistory}
use Rattle.bus_core.specs.Laws.{EventsKeepHistory}
use Rattle.bus_core.specs.Ready.{is_ready}
use Rattle.bus_core.specs.Step.{begin_refusal, begin_state, without_flight, abandon_refusal, report_refusal, is_attempt, finish_refusal, finish_state, settle_of, register_refusal, registered_core, CoreEvent, begins, finishes, abandons, registers, step, after}
use Rattle.bus_core.proofs.HistoryLemmas.{history-push, is_settled-push}
use Rattle.bus_core.proofs.LateLemmas.{history-late}
use Rattle.bus_core.proofs.Lists.{filled-emptied, filled-filled}

-- what every event keeps: the history is the bus's, and no device in flight has settled
pub record IsReached (plan : List PlannedDevice) (s : CoreState) : Type 0 where
  pub lawful : IsBusHistory plan s.history
  pub apart : (d : ℕ) → is_in_flight s d ≡ true → is_settled s.history d ≡ false

pub begin-reached : (plan : List PlannedDevice) (s : CoreState) (d : ℕ) → is_idle s d ≡ true → IsReached plan s → IsReached plan (begin_state s d)
begin-reached plan s d idle reached =
    record {
      lawful = reached.lawful;
      apart = λ e flying. elim (filled-filled s.flights d e (Some (record { attempt = s.begins + 1; settled = length s.history })) flying) [
        | inl same ↦ subst (λ n. is_settled s.history n ≡ false) (sym same) (or_parts (is_in_flight s d) (is_settled s.history d) (not-true (is_in_flight s d || is_settled s.history d) idle)).1
        | inr earlier ↦ reached.apart e earlier
      ];
    }

pub landed-reached : (plan : List PlannedDevice) (s : CoreState) (d : ℕ) → IsReached plan s → IsReached plan (without_flight s d)
landed-reached plan s d reached =
    record { lawful = reached.lawful; apart = λ e flying. reached.apart e (filled-emptied s.flights d e flying).1 }

pub settled-reached : (plan : List PlannedDevice) (s : CoreState) (d : ℕ) → is_in_flight s d ≡ true → is_ready plan (bound_in s.history) d ≡ true → IsReached plan s → IsReached plan (finish_state plan s d Settled)
settled-reached plan s d flying ready reached =
    record {
      lawful = history-push plan [] s.history (settle_of plan d) reached.lawful (record { once = reached.apart d flying; ready = ready; outcome = refl });
      apart = λ e aloft.
          let parts = filled-emptied s.flights d e aloft
          in is_settled-push s.history (settle_of plan d) e ∙ or_from (is_settled s.history e) (eqb d e) (reached.apart e parts.1) (ne_eqb d e parts.0);
    }

pub attempt-flying : (flight : Option Flight) (attempt : ℕ) → is_attempt flight attempt ≡ true → is_some flight ≡ true
attempt-flying None attempt held = held
attempt-flying (Some flight) attempt held = refl

-- a chain of tests that refuses nothing passed its first test
pub passed-first : (test : Bool) (refusal : Refusal) (rest : Option Refusal) → is_none (cond (not test) (Some refusal) rest) ≡ true → (test ≡ true) × (is_none rest ≡ true)
passed-first true refusal rest passed = (refl, passed)
passed-first false refusal rest passed = absurd (true≢false (sym passed))

pub report-reached : (plan : List PlannedDevice) (s : CoreState) (d : ℕ) (report : Report) → is_in_flight s d ≡ true → is_none (report_refusal plan s d report) ≡ true → IsReached plan s → IsReached plan (finish_state plan s d report)
report-reached plan s d Settled flying passed reached = settled-reached plan s d flying (passed-first (is_ready plan (bound_in s.history) d) _ _ passed).0 reached
report-reached plan s d (Missing supplier) flying passed reached = landed-reached plan s d reached

-- a driver comes late
late-reached : (core : CoreValue) (name : List ℕ) (strings : List (List ℕ)) → IsReached core.plan core.state → IsReached (registered_core core name strings).plan (registered_core core name strings).state
late-reached core name strings reached = record { lawful = history-late core.plan name strings core.state.history reached.lawful; apart = reached.apart }

-- the core after a test, as both outcomes keep it
cond-reached : (test : Bool) (new old : CoreValue) → (test ≡ true → IsReached new.plan new.state) → IsReached old.plan old.state → IsReached (cond test new old).plan (cond test new old).state
cond-reached true new old then else = then refl
cond-reached false new old then else = else

pub step-reached : (core : CoreValue) (e : CoreEvent) → IsReached core.plan core.state → IsReached (step core e).plan (step core e).state
step-reached core (begins d) reached =
    cond-reached (is_none (begin_refusal core.plan core.state d)) (with_state core (begin_state core.state d)) core
    (λ passed. begin-reached core.plan core.state d (passed-first (is_idle core.state d) _ _ (passed-first (is_matched core.plan d) _ _ passed).1).0 reached) reached
step-reached core (finishes ticket report) reached =
    cond-reached (is_none (finish_refusal core.plan core.state ticket report)) (with_state core (finish_state core.plan core.state ticket.device report)) core
    (λ passed.
    let parts = passed-first (is_attempt (flight_of core.state ticket.device) ticket.attempt) _ _ passed
    in report-reached core.plan core.state ticket.device report (attempt-flying (flight_of core.state ticket.device) ticket.attempt parts.0) parts.1 reached) reached
step-reached core (abandons d) reached =
    cond-reached (is_none (abandon_refusal core.state d)) (with_state core (without_flight core.state d)) core (λ passed. landed-reached core.plan core.state d reached) reached
step-reached core (registers name strings) reached =
    cond-reached (is_none (register_refusal core.plan core.state name)) (registered_core core name strings) core (λ passed. late-reached core name strings reached) reached

pub after-reached : (core : CoreValue) (events : List CoreEvent) → IsReached core.plan core.state → IsReached (after core events).plan (after core events).state
after-reached core [] reached = reached
after-reached core (e ∷ events) reached = after-reached (step core e) events (step-reached core e reached)

abbrev pub no_flight : Option Flight
no_flight = None

pub none-filled : (n d : ℕ) → is_some (slice_index_or (replicate n no_flight) d no_flight) ≡ false
none-filled n d = elim (cases_lt d n) [
  | inl within ↦ ap is_some (get_or-replicate n d no_flight no_flight within)
  | inr past ↦ ap is_some (get_or_past (replicate n no_flight) d no_flight (rw (length-replicate n no_flight) past))
]

pub events-keep : EventsKeepHistory
events-keep plan events =
    (after-reached (first_core plan) events (record { lawful = tt; apart = λ d flying. absurd (true≢false (sym flying ∙ none-filled (length plan) d)) })).lawful
