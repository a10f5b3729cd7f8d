use Rattle.std.proofs.Common.{refl}
use Rattle.dt_live.specs.Rows.{property_of}
use Rattle.dt_live.proofs.LookUps.{property-found}
use Rattle.dt_live.proofs.laws.names.property_look_up.Goals as goal

pub returns : goal.returns
returns c = λ d whole n k known. property-found d whole n k known (property_of d n k) refl
