use Rattle.std.proofs.Common.{ap, sym}
use Rattle.bus_manager.specs.RunError.{number_of}
use Rattle.bus_manager.proofs.run_error.RunError.number.Goals as goal

pub returns-in-TooManyWorkers : goal.returns-in-TooManyWorkers
returns-in-TooManyWorkers c = sym (ap number_of c.in-TooManyWorkers.is)
