use Rattle.std.proofs.Common.{refl}
use Rattle.dt_source.proofs.parser.too_long.Goals as goal

pub returns : goal.returns
returns c = refl
