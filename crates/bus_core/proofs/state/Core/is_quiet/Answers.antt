use Rattle.std.proofs.Common.{◌≡◌, eqb, subst, ◌∙◌}
use Rattle.std.proofs.lemmas.List.{length-map}
use Rattle.bus_core.specs.CoreState.{CoreValue}
use Rattle.bus_core.specs.Due.{is_due, is_quiet}
use Rattle.bus_core.specs.History.{IsBusHistory}
use Rattle.bus_core.specs.RefinementPhase.{flight_in, state_of}
use Rattle.bus_core.proofs.QuietLemmas.{due-busy, landed-quiet, quiet-then_least}
use Rattle.bus_core.proofs.state.Core.is_quiet.Goals as goal
use Rattle.bus_core.proofs.state.Core.is_quiet.Goals.{In-None}

pub returns-in-Some-clause-quiet : goal.returns-in-Some-clause-quiet
returns-in-Some-clause-quiet c = due-busy c.args.self.now.plan c.args.self.now.state c.in-Some.field-0 c.in-Some.ensures.due

quiet : (c : In-None) → eqb c.self.inside.flights 0 ≡ is_quiet c.args.self.now.plan c.args.self.now.state
quiet c =
    landed-quiet c.self.inside.plan (state_of c.self.inside.phases.items c.self.inside.history.items c.self.inside.begins) c.self.inside.flights
    (length-map c.self.inside.phases.items flight_in ∙ c.self.invariant.sound.places) c.self.invariant.counted.flights_is
    (λ d. (λ i. is_due (c.self.view_is i).plan (c.self.view_is i).state d) ∙ c.in-None.ensures.none d)
    ∙ (λ i. is_quiet (c.self.view_is i).plan (c.self.view_is i).state)

pub returns-in-None-clause-quiet : goal.returns-in-None-clause-quiet
returns-in-None-clause-quiet c = quiet c

pub returns-in-None-clause-least : goal.returns-in-None-clause-least
returns-in-None-clause-least c =
    let P : CoreValue → Type 0 = λ v. IsBusHistory v.plan v.state.history
    in quiet-then_least c.args.self.now (eqb c.self.inside.flights 0) (subst P c.self.view_is c.self.invariant.sound.lawful) (quiet c)
