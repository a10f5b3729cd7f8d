use Rattle.std.proofs.Common.{rules}
use Rattle.dt_text.proofs.expression.elements.push_low_bytes.Goals as goal

pub returns-in-Sixteen : goal.returns-in-Sixteen
returns-in-Sixteen c = search rules
