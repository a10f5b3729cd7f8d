use Rattle.std.proofs.Common.{sym, arith}
use Rattle.dt_blob.proofs.Places.{begins-short}
use Rattle.dt_patch.proofs.naming.begins_with.Goals as goal

pub returns-then-text-name : goal.returns-then-text-name
returns-then-text-name c = sym (begins-short c.args.name.now c.args.text.now (omega arith))
