use Rattle.std.proofs.Common.{rules}
use Rattle.dt_text.proofs.expression.elements.width_of.Goals as goal

pub returns-in-8 : goal.returns-in-8
returns-in-8 c = search rules
