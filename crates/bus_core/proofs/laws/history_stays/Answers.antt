use Rattle.bus_core.proofs.LateLemmas.{history-late}
use Rattle.bus_core.proofs.laws.history_stays.Goals as goal

pub returns : goal.returns
returns c = history-late
