use Rattle.bus_core.proofs.ReachedLemmas.{events-keep}
use Rattle.bus_core.proofs.laws.events_keep_history.Goals as goal

pub returns : goal.returns
returns c = events-keep
