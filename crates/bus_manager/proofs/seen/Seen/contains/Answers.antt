use Rattle.std.proofs.Common.{rules}
use Rattle.bus_manager.proofs.seen.Seen.contains.Goals as goal

pub returns-in-Some : goal.returns-in-Some
returns-in-Some c = search rules
