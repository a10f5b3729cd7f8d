use Rattle.std.proofs.Common.{rules}
use Rattle.bus_plan.proofs.plan.Plan.device.Goals as goal

pub returns : goal.returns
returns c = search rules
