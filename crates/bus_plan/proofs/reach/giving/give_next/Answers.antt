use Rattle.bus_plan.proofs.ReachLemmas.GivenLemmas.{given_skipped, given_more}
use Rattle.bus_plan.proofs.reach.giving.give_next.Goals as goal

pub returns-then-components-place-clause-given : goal.returns-then-components-place-clause-given
returns-then-components-place-clause-given c =
    given_skipped c.args.plan.now c.args.components.now c.args.place c.requires.known c.if-components-place.true c.requires.given

pub returns-clause-given : goal.returns-clause-given
returns-clause-given c = given_more c.args.plan.now c.args.components.now c.give.new.components c.args.place c.requires.known c.requires.given c.in_ok-give.ensures.given
