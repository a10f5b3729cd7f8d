use Rattle.std.proofs.Common.{rules}
use Rattle.bus_manager.proofs.keeper.Keeper.take.Goals as goal

pub returns-in_default-clause-none : goal.returns-in_default-clause-none
returns-in_default-clause-none c = search rules
