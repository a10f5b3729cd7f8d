use Rattle.bus_core.proofs.LateLemmas.{least-late}
use Rattle.bus_core.proofs.laws.least_grows.Goals as goal

pub returns : goal.returns
returns c = least-late
