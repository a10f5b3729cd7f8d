use Rattle.std.proofs.Common.{refl}
use Rattle.dt_live.proofs.PlacedLemmas.LabelEdits.{begun-tree}
use Rattle.dt_live.proofs.placed.placed_tree.PlacedTree.begin.Goals as goal

pub returns-clause-tree : goal.returns-clause-tree
returns-clause-tree g c = λ read. begun-tree read c.args.self.now c.requires.empty c.args.self.now.begun refl
