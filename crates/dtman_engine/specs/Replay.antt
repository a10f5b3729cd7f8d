-- What `replay_bytes` answers: the plan file, the schedule and its events in this order, the first fault of which is
-- the answer, and else the report of the core that the events lead to.
use Rattle.std.specs.Prelude.{◌≡◌, ℕ, List, Result, Ok, Err}
use Rattle.bus_plan.specs.declared.error.PlanError.{PlanError}
use Rattle.bus_plan.specs.Plan.{PlannedDevice}
use Rattle.bus_plan.specs.PlanFile.{reading}
use Rattle.bus_core.specs.declared.event.Event.{Event}
use Rattle.bus_core.specs.declared.refusal.Refusal.{Refusal}
use Rattle.bus_core.specs.CoreState.{CoreValue}
use Rattle.bus_core.specs.History.{IsBusHistory}
use Rattle.bus_core.specs.Replay.{replay_of}
use Rattle.bus_core.specs.Report.{report_text}
use Rattle.bus_core.specs.Schedule.{schedule_of}
use Rattle.dtman_engine.specs.Fault.{FaultValue}
use Rattle.dtman_engine.specs.TextFaults.{text_fault}
use Rattle.dtman_engine.specs.EventFaults.{event_fault}

abbrev pub after_events : Result CoreValue (ℕ × Refusal) → Result CoreValue FaultValue
after_events (Ok core) = Ok core
after_events (Err e) = Err (event_fault e.0 e.1)

abbrev pub after_schedule : List PlannedDevice → Result (List Event) PlanError → Result CoreValue FaultValue
after_schedule plan (Ok events) = after_events (replay_of plan events)
after_schedule plan (Err e) = Err (text_fault e)

abbrev pub after_plan : List ℕ → Result (List PlannedDevice) PlanError → Result CoreValue FaultValue
after_plan schedule (Ok plan) = after_schedule plan (schedule_of plan schedule)
after_plan schedule (Err e) = Err (text_fault e)

-- the core that a schedule leads to from a plan file, or the first fault
abbrev pub replaying : List ℕ → List ℕ → Result CoreValue FaultValue
replaying plan_file schedule = after_plan schedule (reading plan_file)

-- the report of a core, by the drivers that its plan has so far
abbrev pub reported : Result CoreValue FaultValue → Result (List ℕ) FaultValue
reported (Ok core) = Ok (report_text core.plan core.state)
reported (Err fault) = Err fault

abbrev pub replay_answer : List ℕ → List ℕ → Result (List ℕ) FaultValue
replay_answer plan_file schedule = reported (replaying plan_file schedule)

-- the text reports the core that the schedule leads to, whose settled devices, in the order in which they finished, are
-- a history of the bus under the drivers so far
pub record ReportsHistory (plan_file schedule text : List ℕ) : Type 0 where
  pub core : CoreValue
  pub replayed : replaying plan_file schedule ≡ Ok core
  pub history : IsBusHistory core.plan core.state.history
  pub text_is : text ≡ report_text core.plan core.state
