use Rattle.std.proofs.Common.{◌≡◌, ℕ, true, subst, sym, ◌∙◌}
use Rattle.bus_core.specs.CoreState.{CoreValue, was_begun}
use Rattle.bus_core.specs.History.{is_settled}
use Rattle.bus_core.proofs.PartingLemmas.{settled_begun}
use Rattle.bus_core.proofs.SoundLemmas.{begun-phase}
use Rattle.bus_core.specs.RefinementPhase.{phase_at}
use Rattle.bus_core.proofs.state.Core.check_settled.Goals as goal

pub returns : goal.returns
returns c =
    let core = c.self.inside in
    let P : CoreValue → Type 0 = λ v. (d : ℕ) → is_settled v.state.history d ≡ true → was_begun v.state d ≡ true in
    subst P c.self.view_is (λ d settled.
    begun-phase core.phases.items core.history.items core.begins d
    ∙ settled_begun (phase_at core.phases.items d) (sym (c.self.invariant.sound.settled d) ∙ settled))
