use Rattle.std.proofs.Common.{refl, sym}
use Rattle.dt_live.proofs.PlacedLemmas.LabelEdits.{root-there}
use Rattle.dt_live.proofs.placed.placed_tree.PlacedTree.is_begun.Goals as goal

pub returns-clause-tree : goal.returns-clause-tree
returns-clause-tree g c = λ read. sym (root-there read c.args.self.now c.args.self.now.begun refl)
