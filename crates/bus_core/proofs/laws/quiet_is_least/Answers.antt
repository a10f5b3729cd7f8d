use Rattle.bus_core.proofs.LeastLemmas.{quiet-least}
use Rattle.bus_core.proofs.laws.quiet_is_least.Goals as goal

pub returns : goal.returns
returns c = quiet-least
