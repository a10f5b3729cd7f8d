use Rattle.dt_tree.proofs.tree.Tree.into_parts.Goals as goal

pub returns : goal.returns
returns c = c.self.view_is
