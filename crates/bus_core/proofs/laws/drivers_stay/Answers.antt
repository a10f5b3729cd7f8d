use Rattle.bus_core.proofs.DriverLemmas.{drivers-stay}
use Rattle.bus_core.proofs.laws.drivers_stay.Goals as goal

pub returns : goal.returns
returns c = drivers-stay
