use Rattle.dt_overlay.proofs.UnionTrees.{applied-union, result-union}
use Rattle.dt_overlay.proofs.laws.result_is_union.Goals as goal

pub returns-clause-lists : goal.returns-clause-lists
returns-clause-lists c = result-union

pub returns-clause-tree : goal.returns-clause-tree
returns-clause-tree c = applied-union
