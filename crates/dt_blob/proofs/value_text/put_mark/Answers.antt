use Rattle.std.proofs.Common.{rules}
use Rattle.dt_blob.proofs.value_text.put_mark.Goals as goal

pub returns : goal.returns
returns c = search rules
