use Rattle.bus_core.proofs.LeastLemmas.{quiet-end}
use Rattle.bus_core.proofs.laws.quiet_report_is_the_end.Goals as goal

pub returns : goal.returns
returns c = quiet-end
