use Rattle.std.proofs.Common.{rules}
use Rattle.dt_text.proofs.expression.refusals.too_deep.Goals as goal

pub returns : goal.returns
returns c = search rules
