use Rattle.std.proofs.Common.{◌≡◌, length, subst, ◌∙◌}
use Rattle.std.proofs.lemmas.List.{length-map}
use Rattle.bus_core.specs.CoreState.{CoreValue}
use Rattle.bus_core.specs.RefinementPhase.{flight_in}
use Rattle.bus_core.proofs.state.Core.check_flights.Goals as goal

pub returns : goal.returns
returns c =
    let core = c.self.inside in
    let P : CoreValue → Type 0 = λ v. length v.state.flights ≡ length v.plan in
    subst P c.self.view_is (length-map core.phases.items flight_in ∙ c.self.invariant.sound.places)
