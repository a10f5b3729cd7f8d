-- What `probe_bytes` answers: the end report of the plan of a blob and a driver file, or the first fault, that of the workers last.
use Rattle.std.specs.Prelude.{◌≡◌, ◌⊎◌, ℕ, Bool, List, Result, Ok, MatchResult}
use Rattle.dt_tree.specs.TreeData.{TreeData}
use Rattle.bus_plan.specs.declared.error.PlanError.{PlanError}
use Rattle.bus_plan.specs.Plan.{PlannedDevice}
use Rattle.bus_core.specs.declared.event.Report.{Report}
use Rattle.bus_manager.specs.Run.{IsRun}
use Rattle.bus_manager.specs.declared.notes.Ran.{Ran}
use Rattle.dtman_engine.specs.declared.fault.Fault.{Fault}
use Rattle.dtman_engine.specs.Fault.{FaultValue, fault_value}
use Rattle.dtman_engine.specs.RunFaults.{CannotRun}
use Rattle.dtman_engine.specs.Plan.{IsPlanned, IsPlanRefusal, CannotPlan, planning}

-- why there is no end report of a tree: it has no plan, or its plan can't be run
abbrev pub CannotProbe : TreeData → List ℕ → ℕ → FaultValue → Type 0
CannotProbe tree drivers workers fault =
    CannotPlan tree drivers fault ⊎ ((plan : List PlannedDevice) × (planning tree drivers ≡ Ok plan) × CannotRun workers fault)

-- a run of the plan of a tree and a driver file
pub record IsProbeOf {N : Type 0} (attests : List PlannedDevice → ℕ → (ℕ → Bool) → Report → N → Type 0) (planned : Result (List PlannedDevice) PlanError) (ran : Ran N) : Type 0 where
  pub plan : List PlannedDevice
  pub is_planned : planned ≡ Ok plan
  pub run : IsRun (attests plan) plan ran.report.items ran.notes.items

-- the answer to a tree and a driver file: a run of their plan, or why there is none
abbrev pub Probes : {N : Type 0} → (List PlannedDevice → ℕ → (ℕ → Bool) → Report → N → Type 0) → TreeData → List ℕ → ℕ → Result (Ran N) Fault → Type 0
Probes attests tree drivers workers given =
    MatchResult given (IsProbeOf attests (planning tree drivers)) (λ fault. CannotProbe tree drivers workers (fault_value fault))

-- a run of the plan of a tree that the bytes hold: its one end report, and a note of each device that it has settled
pub record IsProbe {N : Type 0} (attests : List PlannedDevice → ℕ → (ℕ → Bool) → Report → N → Type 0) (blob drivers : List ℕ) (ran : Ran N) : Type 0 where
  pub plan : List PlannedDevice
  pub planned : IsPlanned blob drivers plan
  pub run : IsRun (attests plan) plan ran.report.items ran.notes.items

-- ---- refusals
-- there is a plan of a tree that the bytes hold, and it can't be run
pub record IsUnrun (blob drivers : List ℕ) (workers : ℕ) (fault : FaultValue) : Type 0 where
  pub plan : List PlannedDevice
  pub planned : IsPlanned blob drivers plan
  pub cannot : CannotRun workers fault

-- why there is no end report at all: the blob's fault comes before the file's, that before the plan's, and the workers' last
abbrev pub IsProbeRefusal : List ℕ → List ℕ → ℕ → FaultValue → Type 0
IsProbeRefusal blob drivers workers fault = IsPlanRefusal blob drivers fault ⊎ IsUnrun blob drivers workers fault
