use Rattle.std.proofs.Common.{refl}
use Rattle.dt_live.specs.Rows.{child_of}
use Rattle.dt_live.proofs.LookUps.{child-found}
use Rattle.dt_live.proofs.laws.names.child_look_up.Goals as goal

pub returns : goal.returns
returns c = λ d whole n k known. child-found d whole n k known (child_of d n k) refl
