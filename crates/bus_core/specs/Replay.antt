-- A schedule's events, one after another. A finish of a schedule takes the flight that its device has.
use Rattle.std.specs.Prelude.{◌≡◌, ℕ, ◌+◌, ◌<◌, true, not, if◌then◌else◌, List, [], ◌∷◌, Option, Some, None, Result, Ok, Err, length}
use Rattle.bus_plan.specs.Plan.{PlannedDevice, is_driver_name}
use Rattle.bus_core.specs.declared.event.Event.{Event}
use Rattle.bus_core.specs.declared.event.Event.TheVariants.{Begin, Finish, Abandon, Register}
use Rattle.bus_core.specs.declared.refusal.Refusal.{Refusal}
use Rattle.bus_core.specs.declared.refusal.Refusal.TheVariants.{NotInFlight}
use Rattle.bus_core.specs.CoreState.{CoreState, CoreValue, Flight, flight_of, is_in_flight, first_core, with_state}
use Rattle.bus_core.specs.Step.{begin_refusal, begin_state, abandon_refusal, without_flight, report_refusal, finish_state, register_refusal, registered_core, CoreEvent, begins, finishes, abandons, registers, step}

abbrev pub event_refusal : CoreValue → Event → Option Refusal
event_refusal core (Begin d) = begin_refusal core.plan core.state d
event_refusal core (Finish d report) =
    if not (is_in_flight core.state d) then Some NotInFlight else report_refusal core.plan core.state d report
event_refusal core (Abandon d) = abandon_refusal core.state d
event_refusal core (Register name strings) = register_refusal core.plan core.state name

-- the core after an event that isn't refused
abbrev pub event_core : CoreValue → Event → CoreValue
event_core core (Begin d) = with_state core (begin_state core.state d)
event_core core (Finish d report) = with_state core (finish_state core.plan core.state d report)
event_core core (Abandon d) = with_state core (without_flight core.state d)
event_core core (Register name strings) = registered_core core name strings

-- an event of a device is about one of the plan, and a driver has a driver's name
abbrev pub IsEventOf : List PlannedDevice → Event → Type 0
IsEventOf plan (Begin d) = d < length plan
IsEventOf plan (Finish d report) = d < length plan
IsEventOf plan (Abandon d) = d < length plan
IsEventOf plan (Register name strings) = is_driver_name name ≡ true

abbrev pub or_refused : Option Refusal → ℕ → Result CoreValue (ℕ × Refusal) → Result CoreValue (ℕ × Refusal)
or_refused None n rest = rest
or_refused (Some refusal) n rest = Err (n, refusal)

-- the core after all events, or the number of the first refused one, the events counted from n + 1, and its refusal
abbrev pub replay_from : ℕ → CoreValue → List Event → Result CoreValue (ℕ × Refusal)
replay_from n core [] = Ok core
replay_from n core (e ∷ es) = or_refused (event_refusal core e) (n + 1) (replay_from (n + 1) (event_core core e) es)

abbrev pub replay_of : List PlannedDevice → List Event → Result CoreValue (ℕ × Refusal)
replay_of plan events = replay_from 0 (first_core plan) events

-- ---- the library's events
-- the attempt that a flight's ticket names; no flight has attempt 0
abbrev pub attempt_of : Option Flight → ℕ
attempt_of None = 0
attempt_of (Some flight) = flight.attempt

-- the library's event that an event of a schedule stands for
abbrev pub core_event : CoreState → Event → CoreEvent
core_event s (Begin d) = begins d
core_event s (Finish d report) = finishes (record { device = d; attempt = attempt_of (flight_of s d) }) report
core_event s (Abandon d) = abandons d
core_event s (Register name strings) = registers name strings

-- those of a schedule's events, one after another
abbrev pub core_events : CoreValue → List Event → List CoreEvent
core_events core [] = []
core_events core (e ∷ es) = core_event core.state e ∷ core_events (step core (core_event core.state e)) es
