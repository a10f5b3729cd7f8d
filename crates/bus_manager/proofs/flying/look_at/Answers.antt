use Rattle.std.proofs.Common.{◌∙◌}
use Rattle.bus_plan.specs.Plan.{suppliers_of}
use Rattle.bus_manager.proofs.FlyingLemmas.{look-more}
use Rattle.bus_manager.proofs.Forced.{look-forced}
use Rattle.bus_manager.proofs.flying.look_at.Goals as goal

pub returns-clause-looked : goal.returns-clause-looked
returns-clause-looked c =
    look-more c.args.seat.now.view c.look.new.seat.view c.args.device c.args.supplier c.args.index c.in-Ok.bound c.args.seen.now c.put.new.self (suppliers_of c.args.plan.now c.args.device)
    c.requires.looked c.in-Ok.ensures.ok c.requires.next c.put.ensures

pub returns-clause-forced : goal.returns-clause-forced
returns-clause-forced c =
    look-forced c.args.seat.now.view c.look.new.seat.view c.args.plan.now c.args.supplier c.in-Ok.bound c.args.seen.now c.put.new.self
    (c.requires.of.1 ∙ c.requires.plan) c.in-Ok.ensures.ok c.put.ensures c.requires.forced
