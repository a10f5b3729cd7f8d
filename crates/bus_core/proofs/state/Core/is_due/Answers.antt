use Rattle.std.proofs.Common.{◌∙◌}
use Rattle.bus_core.specs.Due.{is_due}
use Rattle.bus_core.proofs.state.Core.is_due.Goals as goal

pub returns : goal.returns
returns c = c.contains.ensures ∙ c.self.invariant.counted.due_is c.args.device ∙ (λ i. is_due (c.self.view_is i).plan (c.self.view_is i).state c.args.device)
