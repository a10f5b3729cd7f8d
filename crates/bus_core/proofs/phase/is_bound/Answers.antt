use Rattle.std.proofs.Common.{rules}
use Rattle.bus_core.proofs.phase.is_bound.Goals as goal

pub returns-in-Bound : goal.returns-in-Bound
returns-in-Bound c = search rules
