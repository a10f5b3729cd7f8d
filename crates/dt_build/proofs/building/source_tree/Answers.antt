use Rattle.dt_build.proofs.BuildingSteps.{draft-builds, draft-free, draft-ready}
use Rattle.dt_build.proofs.ResolveLemmas.BuildPlaces.{behind-edits}
use Rattle.dt_build.proofs.building.source_tree.Goals as goal

pub draft_tree-requires-clause-ready : goal.draft_tree-requires-clause-ready
draft_tree-requires-clause-ready c =
    draft-ready c.args.symbols c.args.source.now c.in_ok-draft-in-Ok.draft (c.in-Ok.ensures.all.0, c.in-Ok.prepared, c.in-Ok.ensures.all.1, c.in_ok-draft-in-Ok.ensures) c.requires.lawful

pub draft_tree-requires-clause-free : goal.draft_tree-requires-clause-free
draft_tree-requires-clause-free c =
    draft-free c.args.symbols c.args.source.now c.in_ok-draft-in-Ok.draft (c.in-Ok.ensures.all.0, c.in-Ok.prepared, c.in-Ok.ensures.all.1, c.in_ok-draft-in-Ok.ensures)

pub returns-in_ok-draft-in-Ok-clause-tree : goal.returns-in_ok-draft-in-Ok-clause-tree
returns-in_ok-draft-in-Ok-clause-tree c =
    draft-builds c.args.symbols c.args.source.now c.in_ok-draft-in-Ok.draft (c.in-Ok.ensures.all.0, c.in-Ok.prepared, c.in-Ok.ensures.all.1, c.in_ok-draft-in-Ok.ensures) c.requires.lawful
    c.args.limit c.draft_tree.result c.draft_tree.ensures

pub returns-in-Err-clause-tree : goal.returns-in-Err-clause-tree
returns-in-Err-clause-tree c = c.in-Err.ensures.all

pub returns-in_ok-draft-in-Ok-clause-at : goal.returns-in_ok-draft-in-Ok-clause-at
returns-in_ok-draft-in-Ok-clause-at c = behind-edits c.args.source.now c.draft_tree.result _ c.in-Ok.ensures.all.1.edited
