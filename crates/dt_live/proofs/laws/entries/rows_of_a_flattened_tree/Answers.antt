use Rattle.dt_live.proofs.WholeTrees.{all-paths, all-entries, one-number}
use Rattle.dt_live.proofs.laws.entries.rows_of_a_flattened_tree.Goals as goal

pub returns-clause-nodes : goal.returns-clause-nodes
returns-clause-nodes c = λ d whole. all-paths d whole.sound whole.stand

pub returns-clause-once : goal.returns-clause-once
returns-clause-once c = λ d whole. one-number d whole.sound whole.stand

pub returns-clause-properties : goal.returns-clause-properties
returns-clause-properties c = λ d whole. all-entries d whole.sound whole.stand whole.valued
