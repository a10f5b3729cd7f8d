use Rattle.std.proofs.Common.{refl}
use Rattle.dt_blob.proofs.read_nodes.advance.Goals as goal

pub returns-in-Nop : goal.returns-in-Nop
returns-in-Nop c = rw c.in-Nop.is refl
