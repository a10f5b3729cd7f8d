use Rattle.dt_live.proofs.WholeTrees.{whole-all, whole-bare, whole-nodes-named, whole-properties-named}
use Rattle.dt_live.proofs.laws.whole.lawful_names.Goals as goal

pub returns-clause-rows : goal.returns-clause-rows
returns-clause-rows c = whole-all

pub returns-clause-labels : goal.returns-clause-labels
returns-clause-labels c = whole-bare

pub returns-clause-nodes : goal.returns-clause-nodes
returns-clause-nodes c = whole-nodes-named

pub returns-clause-properties : goal.returns-clause-properties
returns-clause-properties c = whole-properties-named
