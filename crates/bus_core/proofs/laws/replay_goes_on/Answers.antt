use Rattle.bus_core.proofs.ReplayLaws.{replay-more_by_one}
use Rattle.bus_core.proofs.laws.replay_goes_on.Goals as goal

pub returns : goal.returns
returns c = replay-more_by_one
