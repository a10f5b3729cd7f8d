use Rattle.std.proofs.Common.{refl}
use Rattle.dt_tree.proofs.phandle_properties.phandle_properties.Goals as goal

pub returns : goal.returns
returns c = refl
