-- A run's error is told, and the number of workers is wrong where that is the error.
use Rattle.std.proofs.Common.{◌≡◌, ◌↔◌, inl, inr, ℕ, Some, refl}
use Rattle.bus_manager.specs.declared.run_error.RunError.{RunError}
use Rattle.bus_manager.specs.declared.run_error.RunError.TheVariants.{NoMemory, TooManyWorkers}
use Rattle.dtman_engine.specs.Fault.{FaultValue}
use Rattle.dtman_engine.specs.RunFaults.{AreTooMany, CannotRun, run_fault}

pub not-run : (workers : ℕ) (e : RunError) (fault : FaultValue) → fault ≡ run_fault e
    → ((Some e ≡ Some TooManyWorkers) ↔ AreTooMany workers) → CannotRun workers fault
not-run workers NoMemory fault told many = inl told
not-run workers TooManyWorkers fault told many = inr (told, many.0 refl)
