-- What was read past the limit is longer than it.
use Rattle.std.proofs.Common.{arith}
use Rattle.dtman_engine.proofs.transfer.read_all.Goals as goal

pub returns-clause-end : goal.returns-clause-end
returns-clause-end g c = λ short. absurd (omega (arith, short, c.loop-piece-test.false))
