use Rattle.std.proofs.Common.{ap, sym}
use Rattle.bus_plan.specs.PlanError.{number_of}
use Rattle.bus_plan.proofs.error.PlanError.number.Goals as goal

pub returns-in-UnknownPath : goal.returns-in-UnknownPath
returns-in-UnknownPath c = sym (ap number_of c.in-UnknownPath.is)
