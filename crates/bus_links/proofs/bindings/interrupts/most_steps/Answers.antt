use Rattle.std.proofs.Common.{refl}
use Rattle.bus_links.specs.Bindings.Interrupts.{most_steps}
use Rattle.bus_links.proofs.bindings.interrupts.most_steps.Goals as goal

pub returns : goal.returns
unfolding most_steps
returns c = refl
