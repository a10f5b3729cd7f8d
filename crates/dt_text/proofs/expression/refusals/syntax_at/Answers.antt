use Rattle.std.proofs.Common.{rules}
use Rattle.dt_text.proofs.expression.refusals.syntax_at.Goals as goal

pub returns-in-len1-up : goal.returns-in-len1-up
returns-in-len1-up c = search rules
