use Rattle.std.proofs.Common.{refl}
use Rattle.bus_links.specs.Bindings.Interrupts.{most_bytes}
use Rattle.bus_links.proofs.bindings.nexus.most_bytes.Goals as goal

pub returns : goal.returns
unfolding most_bytes
returns c = refl
