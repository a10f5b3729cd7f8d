use Rattle.std.proofs.Common.{◌-◌, arith}
use Rattle.dt_build.proofs.NodeNames.{node-name}
use Rattle.dt_build.proofs.node_names.node_name.Goals as goal

pub returns : goal.returns
returns c =
    node-name c.args.nodes.now c.requires.grown c.args.node (c.args.node - 1) (omega (arith, c.if-node-eq0.false)) _ (omega (arith, c.requires.known, c.if-node-eq0.false))
