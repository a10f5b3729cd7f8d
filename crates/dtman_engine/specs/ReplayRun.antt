-- What `replay_run_bytes` answers: the end report of the core that a schedule leads to, or the first fault, that of the
-- workers last.
use Rattle.std.specs.Prelude.{◌≡◌, ◌⊎◌, ℕ, Bool, List, Result, Ok, Err}
use Rattle.bus_plan.specs.Plan.{PlannedDevice}
use Rattle.bus_core.specs.CoreState.{CoreValue}
use Rattle.bus_core.specs.declared.event.Report.{Report}
use Rattle.bus_manager.specs.Run.{IsRunOf}
use Rattle.bus_manager.specs.declared.notes.Ran.{Ran}
use Rattle.dtman_engine.specs.Fault.{FaultValue, no_memory}
use Rattle.dtman_engine.specs.RunFaults.{CannotRun}
use Rattle.dtman_engine.specs.Replay.{replaying}

-- a run that goes on from the core that the schedule leads to: its one end report under the drivers so far, and a note
-- of each device that has settled since
pub record IsReplayRun {N : Type 0} (attests : List PlannedDevice → ℕ → (ℕ → Bool) → Report → N → Type 0) (plan_file schedule : List ℕ) (ran : Ran N) : Type 0 where
  pub core : CoreValue
  pub replayed : replaying plan_file schedule ≡ Ok core
  pub run : IsRunOf (attests core.plan) core ran.report.items ran.notes.items

-- why a replay isn't run to its end: its own fault, or else the workers
abbrev pub CannotGoOn : Result CoreValue FaultValue → ℕ → FaultValue → Type 0
CannotGoOn (Err first) workers fault = fault ≡ first
CannotGoOn (Ok core) workers fault = CannotRun workers fault

abbrev pub IsReplayRunRefusal : List ℕ → List ℕ → ℕ → FaultValue → Type 0
IsReplayRunRefusal plan_file schedule workers fault =
    (fault ≡ no_memory) ⊎ CannotGoOn (replaying plan_file schedule) workers fault
