use Rattle.bus_core.proofs.ReplayLaws.{replay-history}
use Rattle.bus_core.proofs.laws.replay_keeps_history.Goals as goal

pub returns : goal.returns
returns c = replay-history
