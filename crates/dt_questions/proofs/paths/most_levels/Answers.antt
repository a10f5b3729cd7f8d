use Rattle.std.proofs.Common.{refl}
use Rattle.dt_questions.specs.Paths.{most_levels}
use Rattle.dt_questions.proofs.paths.most_levels.Goals as goal

pub returns : goal.returns
unfolding most_levels
returns c = refl
