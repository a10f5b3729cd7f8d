use Rattle.std.proofs.Common.{not, ap}
use Rattle.bus_core.proofs.state.Core.is_missing.Goals as goal

pub returns : goal.returns
returns c = ap not c.is_bound.ensures
