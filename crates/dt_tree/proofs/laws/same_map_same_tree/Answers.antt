use Rattle.dt_tree.proofs.MapLaws.{same_tree}
use Rattle.dt_tree.proofs.laws.same_map_same_tree.Goals as goal

pub returns : goal.returns
returns c = same_tree
