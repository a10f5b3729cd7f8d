use Rattle.dt_tree.proofs.ReservedLaws.{answered}
use Rattle.dt_tree.proofs.Places.{inside}
use Rattle.dt_tree.proofs.tree.Tree.by_phandle.Goals as goal

pub returns : goal.returns
returns c = rw (← c.self.view_is) (answered c.self.inside.root (inside c.self.inside.root c.check.ensures) c.args.phandle c.path_to.result c.path_to.ensures)
