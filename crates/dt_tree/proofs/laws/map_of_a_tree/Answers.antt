use Rattle.dt_tree.proofs.Places.{inside, is_path_map}
use Rattle.dt_tree.proofs.laws.map_of_a_tree.Goals as goal

pub returns : goal.returns
returns c = λ t s. is_path_map t.root (inside t.root s.sound)
