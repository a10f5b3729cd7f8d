use Rattle.std.proofs.Common.{ap, sym, ◌∙◌}
use Rattle.bus_core.specs.History.{bound_in}
use Rattle.bus_core.specs.RefinementPhase.{bound_by}
use Rattle.bus_core.proofs.state.Core.is_bound.Goals as goal

pub returns : goal.returns
returns c =
    c.is_bound.ensures ∙ ap (λ x. bound_by x c.args.device) c.deref.ensures.value ∙ sym (c.self.invariant.sound.bound c.args.device)
    ∙ (λ i. bound_in (c.self.view_is i).state.history c.args.device)
