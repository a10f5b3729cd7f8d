-- The laws of the definitions, each stated by a public function.
use Rattle.std.specs.Prelude.{◌≡◌, ℕ, Bool, ◌+◌, true, List, [], ◌∷◌, ◌++◌, length, Some, Ok, Err}
use Rattle.std.specs.List.{list_all}
use Rattle.bus_plan.specs.LateDriver.{with_driver}
use Rattle.bus_plan.specs.Plan.{PlannedDevice, driver_of, suppliers_of}
use Rattle.bus_core.specs.declared.event.Event.{Event}
use Rattle.bus_core.specs.declared.refusal.Refusal.{Refusal}
use Rattle.bus_core.specs.declared.settle.Settle.{Settle}
use Rattle.bus_core.specs.CoreState.{CoreState, CoreValue, first_core}
use Rattle.bus_core.specs.Due.{is_quiet}
use Rattle.bus_core.specs.History.{IsBusHistory, bound_in}
use Rattle.bus_core.specs.Least.{IsLeast}
use Rattle.bus_core.specs.Report.{report_text, IsEndReport}
use Rattle.bus_core.specs.Replay.{event_refusal, or_refused, replay_of, core_event, core_events}
use Rattle.bus_core.specs.Step.{CoreEvent, step, after}

-- every list of events leads to a history of the sequential bus, under the drivers so far
abbrev pub EventsKeepHistory : Type 0
EventsKeepHistory =
    (plan : List PlannedDevice) (events : List CoreEvent)
    → let core = after (first_core plan) events in IsBusHistory core.plan core.state.history

-- No device gets two drivers: one that it has stays, whatever begins, finishes, is abandoned or is registered.
abbrev pub DriversStay : Type 0
DriversStay =
    (core : CoreValue) (events : List CoreEvent) (d : ℕ) (driver : List ℕ)
    → driver_of core.plan d ≡ Some driver → driver_of (after core events).plan d ≡ Some driver

-- a history that was lawful stays so when a driver comes late
abbrev pub HistoryStays : Type 0
HistoryStays =
    (plan : List PlannedDevice) (name : List ℕ) (strings : List (List ℕ)) (history : List Settle)
    → IsBusHistory plan history → IsBusHistory (with_driver plan name strings) history

-- the least set over more drivers has all that the least set over fewer has
abbrev pub LeastGrows : Type 0
LeastGrows =
    (plan : List PlannedDevice) (name : List ℕ) (strings : List (List ℕ)) (bound grown : ℕ → Bool)
    → IsLeast plan bound → IsLeast (with_driver plan name strings) grown → (d : ℕ) → bound d ≡ true → grown d ≡ true

-- where nothing is due or in flight, the bound devices are the least set
abbrev pub QuietIsLeast : Type 0
QuietIsLeast = (plan : List PlannedDevice) (s : CoreState) → IsBusHistory plan s.history → is_quiet plan s ≡ true → IsLeast plan (bound_in s.history)

-- a settled device's suppliers are bound before it
abbrev pub SuppliersComeFirst : Type 0
SuppliersComeFirst =
    (plan : List PlannedDevice) (front : List Settle) (s : Settle) (rest : List Settle)
    → IsBusHistory plan (front ++ s ∷ rest) → list_all (bound_in front) (suppliers_of plan s.device) ≡ true

-- where nothing is due or in flight, the report is the one that every run ends with
abbrev pub QuietReportIsTheEnd : Type 0
QuietReportIsTheEnd = (plan : List PlannedDevice) (s : CoreState) → IsBusHistory plan s.history → is_quiet plan s ≡ true → IsEndReport plan (report_text plan s)

-- all end reports of a plan are one text
abbrev pub EndReportIsOne : Type 0
EndReportIsOne = (plan : List PlannedDevice) (one other : List ℕ) → IsEndReport plan one → IsEndReport plan other → one ≡ other

-- a replay that isn't refused leads where the library's events lead
abbrev pub ReplayIsAfter : Type 0
ReplayIsAfter =
    (plan : List PlannedDevice) (events : List Event) (core : CoreValue)
    → replay_of plan events ≡ Ok core → core ≡ after (first_core plan) (core_events (first_core plan) events)

-- its settled devices are a history of the sequential bus, under the drivers so far
abbrev pub ReplayKeepsHistory : Type 0
ReplayKeepsHistory =
    (plan : List PlannedDevice) (events : List Event) (core : CoreValue)
    → replay_of plan events ≡ Ok core → IsBusHistory core.plan core.state.history

-- one event more is the step of that event, or refused as it is
abbrev pub ReplayGoesOn : Type 0
ReplayGoesOn =
    (plan : List PlannedDevice) (events : List Event) (e : Event) (core : CoreValue)
    → replay_of plan events ≡ Ok core
    → replay_of plan (events ++ e ∷ [])
    ≡ or_refused (event_refusal core e) (length events + 1) (Ok (step core (core_event core.state e)))

-- a refused replay stays refused
abbrev pub ReplayStops : Type 0
ReplayStops =
    (plan : List PlannedDevice) (events more : List Event) (n : ℕ) (refusal : Refusal)
    → replay_of plan events ≡ Err (n, refusal) → replay_of plan (events ++ more) ≡ Err (n, refusal)
