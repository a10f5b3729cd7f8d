use Rattle.dt_tree.specs.Path.{path_names}
use Rattle.dt_build.specs.Edit.Said.{pieces}
use Rattle.dt_build.proofs.EditLemmas.DtcTargets.{path-begun, path-found, path-missing}
use Rattle.dt_build.proofs.edit.dtc_targets.node_of_path.Goals as goal

pub returns-in-Some-clause-node : goal.returns-in-Some-clause-node
returns-in-Some-clause-node c = path-found c.args.placed.now c.args.path.now c.in-Some.node (c.in-Some.ensures.path pieces)

pub returns-in-Some-clause-begun : goal.returns-in-Some-clause-begun
returns-in-Some-clause-begun c = path-begun c.args.placed.now c.requires.ready (path_names c.args.path.now) c.in-Some.node (c.in-Some.ensures.path pieces)

pub returns-in-None-clause-node : goal.returns-in-None-clause-node
returns-in-None-clause-node c = path-missing c.args.placed.now c.args.path.now (c.in-None.ensures.path pieces)
