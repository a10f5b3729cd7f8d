use Rattle.dt_live.proofs.live_tree.LiveTree.child.Goals as goal

pub returns : goal.returns
returns g c = c.get.ensures
