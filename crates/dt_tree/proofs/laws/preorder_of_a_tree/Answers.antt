use Rattle.dt_tree.specs.PathMap.{path_map}
use Rattle.dt_tree.proofs.OrderLaws.{has_distinct, precedes-apart, precedes-either}
use Rattle.dt_tree.proofs.Places.{inside, is_path_map}
use Rattle.dt_tree.proofs.laws.preorder_of_a_tree.Goals as goal

pub returns-clause-apart : goal.returns-clause-apart
returns-clause-apart c = λ t s. precedes-apart (path_map t.root) (has_distinct (path_map t.root) (is_path_map t.root (inside t.root s.sound)))

pub returns-clause-total : goal.returns-clause-total
returns-clause-total c = λ t p q. precedes-either p q t.root
