use Rattle.std.proofs.Common.{refl}
use Rattle.dt_tree.proofs.node.Node.from_distinct.Goals as goal

pub returns : goal.returns
returns c = refl
