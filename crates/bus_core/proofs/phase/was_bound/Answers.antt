use Rattle.std.proofs.Common.{ap, sym, ◌∙◌}
use Rattle.bus_core.specs.RefinementPhase.{bound_before}
use Rattle.bus_core.proofs.phase.was_bound.Goals as goal

pub returns-in-Bound : goal.returns-in-Bound
returns-in-Bound c = sym (ap (bound_before c.args.settled) (sym c.phase_of.ensures ∙ c.in-Bound.is))
