use Rattle.std.proofs.Common.{rules}
use Rattle.dt_text.proofs.lexeme.line.line_of.Goals as goal

pub returns : goal.returns
returns c = search rules
