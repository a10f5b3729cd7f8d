use Rattle.dt_overlay.proofs.ShiftedSteps.{shifted-places}
use Rattle.dt_overlay.proofs.laws.shifted_by_places.Goals as goal

pub returns : goal.returns
returns c = shifted-places
