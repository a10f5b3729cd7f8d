use Rattle.bus_core.proofs.ReplayLaws.{replay-after}
use Rattle.bus_core.proofs.laws.replay_is_after.Goals as goal

pub returns : goal.returns
returns c = replay-after
