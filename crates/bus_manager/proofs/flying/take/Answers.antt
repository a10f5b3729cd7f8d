use Rattle.bus_manager.proofs.FlyingLemmas.{taken}
use Rattle.bus_manager.proofs.flying.take.Goals as goal

pub returns-in-Ok-Some-clause-some : goal.returns-in-Ok-Some-clause-some
returns-in-Ok-Some-clause-some c =
    taken c.args.board.now c.args.seat.now c.take.new.seat c.in-Ok-Some.device c.requires c.take.ensures.board (rw c.in-Ok-Some.field-0-is at c.in-Ok-Some.ensures.claimed)
