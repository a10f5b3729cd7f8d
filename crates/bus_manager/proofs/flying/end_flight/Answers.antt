use Rattle.std.proofs.Common.{◌∙◌}
use Rattle.bus_manager.proofs.FlyingLemmas.{settle-allowed, defer-allowed}
use Rattle.bus_manager.proofs.flying.end_flight.Goals as goal

pub unreachable-requires : goal.unreachable-requires
unreachable-requires c =
    settle-allowed c.args.seat.now.view c.args.plan.now c.args.device c.args.seen.now (c.requires.of.1 ∙ c.requires.plan) c.requires.looked
    (rw c.in-Settled.is at c.requires.lawful) c.in-Err.field-0 c.in-Err.ensures.err.1

pub unreachable-requires-in-Err-defer : goal.unreachable-requires-in-Err-defer
unreachable-requires-in-Err-defer c =
    let lawful = rw c.in-Missing.is at c.requires.lawful
    in defer-allowed c.args.seat.now.view c.args.plan.now c.args.device c.in-Missing.supplier c.args.seen.now (c.requires.of.1 ∙ c.requires.plan) c.requires.looked
    lawful.0 lawful.1 c.in-Err-defer.field-0 c.in-Err-defer.ensures.err.1
