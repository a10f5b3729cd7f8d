use Rattle.std.proofs.Common.{refl}
use Rattle.dt_questions.specs.Rows.{window}
use Rattle.dt_questions.proofs.rows.window.Goals as goal

pub returns : goal.returns
unfolding window
returns c = refl
