use Rattle.dt_patch.proofs.ViewLemmas.Descents.{sibling_stands}
use Rattle.dt_patch.proofs.view.laws.first_of_siblings.Goals as goal

pub returns : goal.returns
returns c = sibling_stands
