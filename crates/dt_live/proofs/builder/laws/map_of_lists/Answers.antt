use Rattle.dt_live.proofs.BuilderLemmas.TreeLists.{map-lists}
use Rattle.dt_live.proofs.builder.laws.map_of_lists.Goals as goal

pub returns : goal.returns
returns c = map-lists
