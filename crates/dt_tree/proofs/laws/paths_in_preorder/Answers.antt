use Rattle.dt_tree.proofs.Places.{inside}
use Rattle.dt_tree.proofs.PreorderLaws.{all_stand, all_listed, all_once, all_ordered}
use Rattle.dt_tree.proofs.laws.paths_in_preorder.Goals as goal

pub returns-clause-standing : goal.returns-clause-standing
returns-clause-standing c = λ t s. all_stand t.root (inside t.root s.sound)

pub returns-clause-all : goal.returns-clause-all
returns-clause-all c = λ t path e. all_listed t.root path e

pub returns-clause-once : goal.returns-clause-once
returns-clause-once c = λ t s. all_once t.root (inside t.root s.sound)

pub returns-clause-ordered : goal.returns-clause-ordered
returns-clause-ordered c = λ t s. all_ordered t.root (inside t.root s.sound)
