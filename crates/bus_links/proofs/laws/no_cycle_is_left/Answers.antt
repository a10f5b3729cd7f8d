use Rattle.bus_links.proofs.NoCycle.{no_cycle}
use Rattle.bus_links.proofs.laws.no_cycle_is_left.Goals as goal

pub returns : goal.returns
returns c = no_cycle
