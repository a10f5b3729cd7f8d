use Rattle.std.proofs.Common.{refl}
use Rattle.bus_drivers.proofs.walk.has_room.Goals as goal

pub returns : goal.returns
returns c = refl
