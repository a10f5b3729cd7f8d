-- The number and the name of each refusal of a run.
use Rattle.std.specs.Prelude.{ℕ, List, codes}
use Rattle.bus_manager.specs.declared.run_error.RunError.{RunError}
use Rattle.bus_manager.specs.declared.run_error.RunError.TheVariants.{NoMemory, TooManyWorkers}

abbrev pub number_of : RunError → ℕ
number_of NoMemory = 0
number_of TooManyWorkers = 70

abbrev pub name_of : RunError → List ℕ
name_of NoMemory = codes "NoMemory"
name_of TooManyWorkers = codes "TooManyWorkers"
