use Rattle.std.proofs.Common.{◌≡◌, not, cond, true, Some, None, ap, sym, ◌∙◌, lt-ltb, arith}
use Rattle.std.specs.Prelude.{nat_lt}
use Rattle.bus_plan.specs.Plan.{is_matched}
use Rattle.bus_core.specs.declared.refusal.Refusal.TheVariants.{NotIdle, Unmatched, TooManyEvents}
use Rattle.bus_core.specs.Due.{is_idle}
use Rattle.bus_core.specs.Limits.{begin_limit}
use Rattle.bus_core.specs.RefinementPhase.{phase_at, idle_in}
use Rattle.bus_core.specs.Step.{begin_refusal}
use Rattle.bus_core.proofs.SoundLemmas.{idle-same}
use Rattle.bus_core.proofs.state.Core.begin_refusal.Goals as goal

pub returns-clause-idle : goal.returns-clause-idle
returns-clause-idle c =
    sym (idle-same c.self.inside.plan c.self.inside.phases.items c.self.inside.history.items c.self.inside.begins c.self.invariant.sound c.args.device ∙ (λ i. is_idle (c.self.view_is i).state c.args.device))
    ∙ sym (c.is_idle.ensures ∙ ap idle_in (c.phase_of.ensures ∙ ap (λ x. phase_at x c.args.device) c.deref.ensures.value))
    ∙ c.if-not-is_idle.false

pub returns-clause-few : goal.returns-clause-few
returns-clause-few c = omega (arith, ap (λ v. v.state.begins) c.self.view_is)

pub returns-clause-refusal : goal.returns-clause-refusal
returns-clause-refusal c =
    let matched : is_matched c.args.self.now.plan c.args.device ≡ true =
    sym (c.is_matched.ensures ∙ (λ i. is_matched (c.self.view_is i).plan c.args.device)) ∙ c.if-not-is_matched.false
    in let idle : is_idle c.args.self.now.state c.args.device ≡ true = returns-clause-idle c
    in let short : nat_lt c.args.self.now.state.begins begin_limit ≡ true = lt-ltb c.args.self.now.state.begins begin_limit (omega (arith, ap (λ v. v.state.begins) c.self.view_is))
    in let none : begin_refusal c.args.self.now.plan c.args.self.now.state c.args.device ≡ None =
    λ i. cond (not (matched i)) (Some Unmatched) (cond (not (idle i)) (Some NotIdle) (cond (not (short i)) (Some TooManyEvents) None))
    in sym none
