use Rattle.std.proofs.Common.{ap, sym}
use Rattle.std.specs.Prelude.{is_some}
use Rattle.bus_kernel.proofs.tables.entry.has_entry.Goals as goal

pub returns-in-Some : goal.returns-in-Some
returns-in-Some c = sym (ap is_some c.in-Some.ensures)

pub returns-in-None : goal.returns-in-None
returns-in-None c = sym (ap is_some c.in-None.ensures)
