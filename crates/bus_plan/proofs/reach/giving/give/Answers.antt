-- What both walks find gets the component.
use Rattle.std.proofs.Common.{◌≡◌, ◌∙◌, ap, sym, subst, List, ℕ, ◌+◌, ◌<◌, length}
use Rattle.std.specs.Prelude.{All}
use Rattle.bus_plan.specs.declared.reach.direction.Direction.TheVariants.{Suppliers, Consumers}
use Rattle.bus_plan.specs.Reach.Private.Walk.{IsWalked}
use Rattle.bus_plan.specs.Reach.Private.Given.{with_components, IsGiven}
use Rattle.bus_plan.proofs.ReachLemmas.GivenLemmas.{is_given, known_in}
use Rattle.bus_plan.proofs.reach.giving.give.Goals as goal

pub give_those-requires-clause-known : goal.give_those-requires-clause-known
give_those-requires-clause-known c =
    subst (λ (ds : List ℕ). All (λ d. d < length c.args.components.now) ds) (sym c.as_slice.ensures.value)
    (known_in c.args.plan.now Consumers c.args.classes.now c.new-root.result c.follow-2.new.found.items c.args.components.now c.requires.long c.in_ok-follow-2.ensures.walked)

pub returns-clause-given : goal.returns-clause-given
returns-clause-given c =
    let plan = c.args.plan.now in
    let classes = c.args.classes.now in
    let components = c.args.components.now in
    let place = c.args.place in
    let taken = c.follow.new.found.items in
    let taking = c.follow-2.new.found.items in
    let is : c.give_those.new.components ≡ with_components c.follow.new.stamps (place + 1) place components taking =
    c.give_those.ensures ∙ ap (λ (ds : List ℕ). with_components c.follow.new.stamps (place + 1) place components ds) c.as_slice.ensures.value in
    let ahead : IsWalked Suppliers plan classes place taken = subst (λ (r : ℕ). IsWalked Suppliers plan classes r taken) c.new-root.ensures c.in_ok-follow.ensures.walked in
    let behind : IsWalked Consumers plan classes place taking = subst (λ (r : ℕ). IsWalked Consumers plan classes r taking) c.new-root.ensures c.in_ok-follow-2.ensures.walked in
    subst (λ (l : List ℕ). IsGiven plan components l place) (sym is)
    (is_given plan classes c.requires.classes c.follow.new.stamps components taken taking place (c.follow.auto.stamps ∙ c.requires.ahead.long) c.requires.long
    (known_in plan Consumers classes place taking components c.requires.long behind) c.in_ok-follow.ensures.stamped ahead behind)
