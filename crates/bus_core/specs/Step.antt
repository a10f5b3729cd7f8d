-- What each event of the core does (Linux driver-api, deferred probing). An event is refused by the first test that it
-- fails and then changes nothing, or it gives a new core.
use Rattle.std.specs.Prelude.{◌≡◌, ◌⊎◌, ℕ, ◌+◌, ◌==◌, nat_lt, Bool, true, false, not, if◌then◌else◌, List, [], ◌∷◌, ◌++◌, Option, Some, None, length, take, slice_set, is_none}
use Rattle.std.specs.List.{list_any}
use Rattle.bus_plan.specs.LateDriver.{with_driver, is_known}
use Rattle.bus_plan.specs.Plan.{PlannedDevice, is_matched, suppliers_of, verdict_of}
use Rattle.bus_plan.specs.PlanPaths.{is_among}
use Rattle.bus_core.specs.declared.event.Reply.{Reply}
use Rattle.bus_core.specs.declared.event.Reply.TheVariants as reply
use Rattle.bus_core.specs.declared.event.Report.{Report}
use Rattle.bus_core.specs.declared.event.Report.TheVariants.{Settled, Missing}
use Rattle.bus_core.specs.declared.event.Ticket.{Ticket}
use Rattle.bus_core.specs.declared.refusal.Refusal.{Refusal}
use Rattle.bus_core.specs.declared.refusal.Refusal.TheVariants.{NoMemory, NotIdle, Unmatched, StaleTicket, NotReady, WasBound, TooManyEvents, NotInFlight, KnownDriver}
use Rattle.bus_core.specs.declared.settle.Settle.{Settle}
use Rattle.bus_core.specs.declared.settle.Outcome.{Outcome}
use Rattle.bus_core.specs.declared.settle.Outcome.TheVariants as outcome
use Rattle.bus_core.specs.CoreState.{CoreState, CoreValue, Flight, flight_of, is_in_flight, with_names, with_state}
use Rattle.bus_core.specs.Due.{is_due, is_idle}
use Rattle.bus_core.specs.History.{bound_in, outcome_by}
use Rattle.bus_core.specs.Limits.{begin_limit}
use Rattle.bus_core.specs.Ready.{is_ready}

-- Begin: the device has a driver, is idle, and the begins aren't used up.
abbrev pub begin_refusal : List PlannedDevice → CoreState → ℕ → Option Refusal
begin_refusal plan s d =
    if not (is_matched plan d) then Some Unmatched
    else (if not (is_idle s d) then Some NotIdle
    else (if not (nat_lt s.begins begin_limit) then Some TooManyEvents
    else None))

abbrev pub begin_state : CoreState → ℕ → CoreState
begin_state s d =
    record {
      history = s.history;
      flights = slice_set s.flights d (Some (record { attempt = s.begins + 1; settled = length s.history }));
      begun = slice_set s.begun d true;
      begins = s.begins + 1;
      registered = s.registered;
    }

abbrev pub begun_core : CoreValue → ℕ → CoreValue
begun_core core d = with_state core (begin_state core.state d)

-- the ticket of the next flight
abbrev pub next_ticket : CoreState → ℕ → Ticket
next_ticket s d = record { device = d; attempt = s.begins + 1 }

-- the state without the device's flight
abbrev pub without_flight : CoreState → ℕ → CoreState
without_flight s d =
    record { history = s.history; flights = slice_set s.flights d None; begun = s.begun; begins = s.begins; registered = s.registered }

abbrev pub landed_core : CoreValue → ℕ → CoreValue
landed_core core d = with_state core (without_flight core.state d)

-- Abandon: the device is in flight.
abbrev pub abandon_refusal : CoreState → ℕ → Option Refusal
abandon_refusal s d = if not (is_in_flight s d) then Some NotInFlight else None

-- Finish: what a flight may report. A missing supplier is one that wasn't bound when the flight began.
abbrev pub settled_at_begin : Option Flight → ℕ
settled_at_begin None = 0
settled_at_begin (Some flight) = flight.settled

abbrev pub is_supplier : List PlannedDevice → ℕ → ℕ → Bool
is_supplier plan d supplier = list_any (λ s. s == supplier) (suppliers_of plan d)

abbrev pub bound_at_begin : CoreState → ℕ → ℕ → Bool
bound_at_begin s d = bound_in (take (settled_at_begin (flight_of s d)) s.history)

abbrev pub missing_refusal : List PlannedDevice → CoreState → ℕ → ℕ → Option Refusal
missing_refusal plan s d supplier =
    if not (is_supplier plan d supplier) then Some WasBound
    else (if bound_at_begin s d supplier then Some WasBound
    else None)

abbrev pub report_refusal : List PlannedDevice → CoreState → ℕ → Report → Option Refusal
report_refusal plan s d Settled = if not (is_ready plan (bound_in s.history) d) then Some NotReady else None
report_refusal plan s d (Missing supplier) = missing_refusal plan s d supplier

abbrev pub is_attempt : Option Flight → ℕ → Bool
is_attempt None attempt = false
is_attempt (Some flight) attempt = flight.attempt == attempt

abbrev pub finish_refusal : List PlannedDevice → CoreState → Ticket → Report → Option Refusal
finish_refusal plan s ticket report =
    if not (is_attempt (flight_of s ticket.device) ticket.attempt) then Some StaleTicket
    else report_refusal plan s ticket.device report

abbrev pub settle_of : List PlannedDevice → ℕ → Settle
settle_of plan d = record { device = d; outcome = outcome_by (verdict_of plan d) }

abbrev pub finish_state : List PlannedDevice → CoreState → ℕ → Report → CoreState
finish_state plan s d Settled =
    record {
      history = s.history ++ settle_of plan d ∷ [];
      flights = slice_set s.flights d None;
      begun = s.begun;
      begins = s.begins;
      registered = s.registered;
    }
finish_state plan s d (Missing supplier) = without_flight s d

abbrev pub finished_core : CoreValue → ℕ → Report → CoreValue
finished_core core d report = with_state core (finish_state core.plan core.state d report)

-- the reply, by the outcome or by what is due in the new state
abbrev pub settled_reply : Outcome → Reply
settled_reply outcome.Bound = reply.Bound
settled_reply outcome.Failed = reply.Failed

abbrev pub finish_reply : List PlannedDevice → CoreState → ℕ → Report → Reply
finish_reply plan new d Settled = settled_reply (outcome_by (verdict_of plan d))
finish_reply plan new d (Missing supplier) = if is_due plan new d then reply.Again else reply.Waiting

abbrev pub IsReply : List PlannedDevice → CoreState → ℕ → Report → Reply → Type 0
IsReply plan new d report reply = reply ≡ finish_reply plan new d report

-- Register: no device has a driver of this name so far, and none was registered before.
abbrev pub register_refusal : List PlannedDevice → CoreState → List ℕ → Option Refusal
register_refusal plan s name =
    if is_known plan name then Some KnownDriver
    else (if is_among name s.registered then Some KnownDriver
    else None)

abbrev pub registered_state : CoreState → List ℕ → CoreState
registered_state s name = with_names s (s.registered ++ name ∷ [])

-- why a call that takes memory is refused: by the event's own test, and because memory was only where that refuses nothing
abbrev pub IsRefused : Option Refusal → Refusal → Type 0
IsRefused right refusal = ((refusal ≡ NoMemory) × (right ≡ None)) ⊎ (right ≡ Some refusal)

-- the plan gains the driver where it matches a device that has none
abbrev pub registered_core : CoreValue → List ℕ → List (List ℕ) → CoreValue
registered_core core name strings =
    record { plan = with_driver core.plan name strings; state = registered_state core.state name }

-- An event of the library, where a finish names its flight by a ticket, and a driver comes late by its name and the
-- `compatible` strings that it matches.
pub data CoreEvent : Type 0 where
  begins : ℕ → CoreEvent
  finishes : Ticket → Report → CoreEvent
  abandons : ℕ → CoreEvent
  registers : List ℕ → List (List ℕ) → CoreEvent

-- the core after an event, which is the old one where the event is refused
abbrev pub step : CoreValue → CoreEvent → CoreValue
step core (begins d) =
    if is_none (begin_refusal core.plan core.state d) then begun_core core d else core
step core (finishes ticket report) =
    if is_none (finish_refusal core.plan core.state ticket report)
    then finished_core core ticket.device report
    else core
step core (abandons d) =
    if is_none (abandon_refusal core.state d) then landed_core core d else core
step core (registers name strings) =
    if is_none (register_refusal core.plan core.state name) then registered_core core name strings else core

-- the core after a list of events
abbrev pub after : CoreValue → List CoreEvent → CoreValue
after core [] = core
after core (e ∷ es) = after (step core e) es
