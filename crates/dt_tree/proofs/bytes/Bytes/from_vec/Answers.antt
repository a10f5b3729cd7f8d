use Rattle.std.proofs.Common.{refl}
use Rattle.dt_tree.proofs.bytes.Bytes.from_vec.Goals as goal

pub returns : goal.returns
returns c = refl
