use Rattle.std.proofs.Common.{refl}
use Rattle.dtman_engine.proofs.fault.Fault.no_memory.Goals as goal

pub returns-clause-told : goal.returns-clause-told
returns-clause-told c = refl
