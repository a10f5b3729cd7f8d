use Rattle.dt_live.proofs.ParentRuns.{parents-run}
use Rattle.dt_live.proofs.laws.runs.run_by_parents.Goals as goal

pub returns : goal.returns
returns c = parents-run
