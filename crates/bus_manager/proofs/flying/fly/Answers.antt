use Rattle.bus_manager.proofs.FlyingLemmas.{paid-free}
use Rattle.bus_manager.proofs.flying.fly.Goals as goal

pub returns-then-is_settled-clause-free : goal.returns-then-is_settled-clause-free
returns-then-is_settled-clause-free g c = search paid-free

pub returns-else-is_settled-clause-free : goal.returns-else-is_settled-clause-free
returns-else-is_settled-clause-free g c = search paid-free
