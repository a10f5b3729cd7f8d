use Rattle.std.proofs.Common.{refl}
use Rattle.dt_questions.specs.Addresses.{most_rows}
use Rattle.dt_questions.proofs.addresses.most_rows.Goals as goal

pub returns : goal.returns
unfolding most_rows
returns c = refl
