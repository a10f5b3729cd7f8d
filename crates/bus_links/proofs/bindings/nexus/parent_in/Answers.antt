use Rattle.std.proofs.Common.{arith}
use Rattle.bus_links.specs.Bindings.Interrupts.{most_bytes}
use Rattle.bus_links.proofs.bindings.nexus.parent_in.Goals as goal

pub returns-clause-small : goal.returns-clause-small
unfolding most_bytes
returns-clause-small c = omega (arith, c.if-bytes-most_bytes.false, c.most_bytes.ensures)
