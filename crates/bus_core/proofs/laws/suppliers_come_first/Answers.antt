use Rattle.bus_core.proofs.LeastLemmas.{suppliers-first}
use Rattle.bus_core.proofs.laws.suppliers_come_first.Goals as goal

pub returns : goal.returns
returns c = suppliers-first
