use Rattle.std.proofs.Common.{ap, sym}
use Rattle.bus_plan.specs.PlanError.{line_of}
use Rattle.bus_plan.proofs.error.PlanError.line.Goals as goal

pub returns-in-UnknownPath : goal.returns-in-UnknownPath
returns-in-UnknownPath c = sym (ap line_of c.in-UnknownPath.is)
