use Rattle.std.proofs.Common.{refl}
use Rattle.dt_check.specs.Links.Interrupts.{most_levels}
use Rattle.dt_check.proofs.links.interrupts.most_levels.Goals as goal

pub returns : goal.returns
unfolding most_levels
returns c = refl
