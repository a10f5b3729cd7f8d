use Rattle.dt_source.proofs.TreeMeaningLemmas.SeenNodes.{alike, made, once, removed, stands}
use Rattle.dt_source.proofs.tree_meaning.laws.nodes_at_places.Goals as goal

pub returns-clause-made : goal.returns-clause-made
returns-clause-made c = made

pub returns-clause-removed : goal.returns-clause-removed
returns-clause-removed c = removed

pub returns-clause-stands : goal.returns-clause-stands
returns-clause-stands c = stands

pub returns-clause-once : goal.returns-clause-once
returns-clause-once c = once

pub returns-clause-alike : goal.returns-clause-alike
returns-clause-alike c = alike
