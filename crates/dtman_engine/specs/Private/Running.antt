-- What is answered to a plan, or a core, that is to be run.
use Rattle.std.specs.Prelude.{ℕ, Bool, List, Result, MatchResult}
use Rattle.bus_plan.specs.Plan.{PlannedDevice}
use Rattle.bus_core.specs.CoreState.{CoreValue}
use Rattle.bus_core.specs.declared.event.Report.{Report}
use Rattle.bus_manager.specs.Run.{IsRun, IsRunOf}
use Rattle.bus_manager.specs.declared.notes.Ran.{Ran}
use Rattle.dtman_engine.specs.declared.fault.Fault.{Fault}
use Rattle.dtman_engine.specs.Fault.{fault_value}
use Rattle.dtman_engine.specs.RunFaults.{CannotRun}

-- a run of the plan, or why there is none
abbrev pub Runs : {N : Type 0} → (ℕ → (ℕ → Bool) → Report → N → Type 0) → List PlannedDevice → ℕ → Result (Ran N) Fault → Type 0
Runs attests plan workers given =
    MatchResult given (λ ran. IsRun attests plan ran.report.items ran.notes.items) (λ fault. CannotRun workers (fault_value fault))

-- a run that goes on from the core, or why there is none
abbrev pub GoesOn : {N : Type 0} → (ℕ → (ℕ → Bool) → Report → N → Type 0) → CoreValue → ℕ → Result (Ran N) Fault → Type 0
GoesOn attests core workers given =
    MatchResult given (λ ran. IsRunOf attests core ran.report.items ran.notes.items) (λ fault. CannotRun workers (fault_value fault))
