use Rattle.bus_core.proofs.LeastLemmas.{end-one}
use Rattle.bus_core.proofs.laws.end_report_is_one.Goals as goal

pub returns : goal.returns
returns c = end-one
