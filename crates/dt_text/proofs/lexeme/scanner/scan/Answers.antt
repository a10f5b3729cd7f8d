use Rattle.std.proofs.Common.{rules}
use Rattle.dt_text.proofs.lexeme.scanner.scan.Goals as goal

pub returns-in_default-Some-clause-syntax : goal.returns-in_default-Some-clause-syntax
returns-in_default-Some-clause-syntax c = search rules
