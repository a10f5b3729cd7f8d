use Rattle.dt_live.proofs.WholeTrees.{whole-rows}
use Rattle.dt_live.proofs.laws.whole.whole_by_rows.Goals as goal

pub returns : goal.returns
returns c = whole-rows
