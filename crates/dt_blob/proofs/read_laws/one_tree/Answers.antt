use Rattle.dt_blob.proofs.Holding.{one_tree}
use Rattle.dt_blob.proofs.read_laws.one_tree.Goals as goal

pub returns : goal.returns
returns c = one_tree
