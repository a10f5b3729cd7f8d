-- The faults of a run by workers.
use Rattle.std.specs.Prelude.{◌≡◌, ◌<◌, ◌⊎◌, ℕ}
use Rattle.bus_manager.specs.declared.run_error.RunError.{RunError}
use Rattle.bus_manager.specs.declared.run_error.RunError.TheVariants.{TooManyWorkers}
use Rattle.bus_manager.specs.RunError.{number_of, name_of}
use Rattle.dtman_engine.specs.Fault.{FaultValue, no_memory}
use Rattle.dtman_engine.specs.Limits.{worker_limit}
use Rattle.dtman_engine.specs.declared.fault.Position.TheVariants.{Nowhere}

abbrev pub run_fault : RunError → FaultValue
run_fault error = record { number = number_of error; name = name_of error; position = Nowhere }

-- the workers are none, or more than there may be
abbrev pub AreTooMany : ℕ → Type 0
AreTooMany workers = (workers ≡ 0) ⊎ (worker_limit < workers)

-- why there is no end report: memory is wanted, or the workers are none or too many
abbrev pub CannotRun : ℕ → FaultValue → Type 0
CannotRun workers fault = (fault ≡ no_memory) ⊎ ((fault ≡ run_fault TooManyWorkers) × AreTooMany workers)
