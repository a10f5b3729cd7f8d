use Rattle.bus_core.proofs.ReplayLaws.{replay-stopped}
use Rattle.bus_core.proofs.laws.replay_stops.Goals as goal

pub returns : goal.returns
returns c = replay-stopped
