use Rattle.dt_patch.proofs.ViewLemmas.Overviews.{held_shown}
use Rattle.dt_patch.proofs.view.laws.held_is_shown.Goals as goal

pub returns : goal.returns
returns c = held_shown
