use Rattle.dt_tree.proofs.GreatestLaws.{tree_greatest}
use Rattle.dt_tree.proofs.Places.{inside}
use Rattle.dt_tree.proofs.tree.Tree.greatest_phandle.Goals as goal

pub returns : goal.returns
returns c = rw (← c.self.view_is, c.greatest_in_tree.ensures) (tree_greatest c.self.inside.root (inside c.self.inside.root c.check.ensures))
