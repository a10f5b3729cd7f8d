use Rattle.dt_live.proofs.PathText.{path-size}
use Rattle.dt_live.proofs.path_text.path_size.Goals as goal

pub returns : goal.returns
returns c = path-size c.args.nodes.now c.requires.grown c.args.node c.names_size.result c.saturating_add.result c.if-node-eq0.false c.names_size.ensures c.saturating_add.ensures
