use Rattle.std.proofs.Common.{rules}
use Rattle.dt_blob.proofs.room.add_size.Goals as goal

pub returns : goal.returns
returns c = search rules
