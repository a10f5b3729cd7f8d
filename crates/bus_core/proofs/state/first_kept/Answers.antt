use Rattle.std.proofs.Common.{ap, ◌∙◌, replicate}
use Rattle.bus_core.specs.declared.phase.Phase.TheVariants.{Fresh}
use Rattle.bus_core.proofs.state.first_kept.Goals as goal

pub returns-clause-phases : goal.returns-clause-phases
returns-clause-phases c = c.in_ok-phases.ensures ∙ ap (λ n. replicate n Fresh) c.len-count.ensures
