use Rattle.std.proofs.Common.{◌≡◌, not, cond, true, false, ap, sym, ◌∙◌}
use Rattle.std.specs.Prelude.{is_some}
use Rattle.bus_plan.specs.Plan.{is_available, is_matched}
use Rattle.bus_core.specs.declared.phase.Phase.TheVariants.{InFlight}
use Rattle.bus_core.specs.declared.status.Status.TheVariants as status
use Rattle.bus_core.specs.CoreState.{is_in_flight}
use Rattle.bus_core.specs.Due.{is_due}
use Rattle.bus_core.specs.History.{bound_in, is_settled}
use Rattle.bus_core.specs.RefinementPhase.{phase_at, flight_in, bound_now, settled_in, state_of}
use Rattle.bus_core.specs.Report.{status_of}
use Rattle.bus_core.proofs.SoundLemmas.{flight-phase}
use Rattle.bus_core.proofs.state.Core.status.Goals as goal

pub returns-in-InFlight : goal.returns-in-InFlight
returns-in-InFlight c =
    let plan = c.self.inside.plan
    in let history = c.self.inside.history.items
    in let state = state_of c.self.inside.phases.items history c.self.inside.begins
    in let d = c.args.device
    in let phase : phase_at c.self.inside.phases.items d ≡ InFlight c.in-InFlight.field-0 c.in-InFlight.field-1 =
    sym (c.phase_of.ensures ∙ ap (λ x. phase_at x d) c.deref.ensures.value) ∙ c.in-InFlight.is
    in let bound : bound_in history d ≡ false = c.self.invariant.sound.bound d ∙ ap bound_now phase
    in let settled : is_settled history d ≡ false = c.self.invariant.sound.settled d ∙ ap settled_in phase
    in let flying : is_in_flight state d ≡ true = ap is_some (flight-phase c.self.inside.phases.items history c.self.inside.begins d ∙ ap flight_in phase)
    in let rest = cond (not (is_available plan d)) status.Disabled (cond (not (is_matched plan d)) status.Unmatched (cond (is_due plan state d) status.Due status.Waiting))
    in let said : status_of plan state d ≡ status.Probing = λ i. cond (bound i) status.Bound (cond (settled i) status.Failed (cond (flying i) status.Probing rest))
    in sym said ∙ (λ i. status_of (c.self.view_is i).plan (c.self.view_is i).state d)
