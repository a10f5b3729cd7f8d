use Rattle.dt_overlay.proofs.UnionTrees.{result-refused}
use Rattle.dt_overlay.proofs.laws.refusal_is_of_a_fragment.Goals as goal

pub returns : goal.returns
returns c = result-refused
