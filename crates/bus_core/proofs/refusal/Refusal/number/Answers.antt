use Rattle.std.proofs.Common.{ap, sym}
use Rattle.bus_core.specs.Refusal.{number_of}
use Rattle.bus_core.proofs.refusal.Refusal.number.Goals as goal

pub returns-in-StaleTicket : goal.returns-in-StaleTicket
returns-in-StaleTicket c = sym (ap number_of c.in-StaleTicket.is)
