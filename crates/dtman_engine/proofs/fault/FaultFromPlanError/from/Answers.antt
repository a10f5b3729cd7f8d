use Rattle.std.proofs.Common.{rules}
use Rattle.dtman_engine.proofs.fault.FaultFromPlanError.from.Goals as goal

pub returns : goal.returns
returns c = search rules
