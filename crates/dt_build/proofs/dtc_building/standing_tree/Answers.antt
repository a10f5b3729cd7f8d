use Rattle.dt_source.specs.Meaning.{meaning_of}
use Rattle.dt_build.proofs.DtcSteps.{gather-refused, gathered-of}
use Rattle.dt_build.proofs.dtc_building.standing_tree.Goals as goal

pub gather-requires-clause-sound : goal.gather-requires-clause-sound
gather-requires-clause-sound c = c.requires.stands.stands.sound

pub gather-requires-clause-marked : goal.gather-requires-clause-marked
gather-requires-clause-marked c = c.requires.stands.stands.marked.count

pub gather-requires-clause-labelled : goal.gather-requires-clause-labelled
gather-requires-clause-labelled c = c.requires.stands.stands.labelled.count

pub gathered_tree-requires : goal.gathered_tree-requires
gathered_tree-requires c =
    let r = c.requires.stands in
    let g = c.in-Ok.ensures r.tree r.stands in
    gathered-of c.args.symbols (meaning_of c.args.source.now) c.requires.lawful r g.0 g.1 c.in-Ok.gathered g.2

pub returns-in-Err-clause-tree : goal.returns-in-Err-clause-tree
returns-in-Err-clause-tree c =
    let r = c.requires.stands in
    gather-refused c.args.symbols (meaning_of c.args.source.now) r.tree r.edited c.in-Err.error.kind (c.in-Err.ensures r.tree r.stands)
