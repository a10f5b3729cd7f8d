use Rattle.std.proofs.Common.{rules}
use Rattle.dt_blob.proofs.read_token.string.Goals as goal

pub returns-in-None : goal.returns-in-None
returns-in-None c = search rules
