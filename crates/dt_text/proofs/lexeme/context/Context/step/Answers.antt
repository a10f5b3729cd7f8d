use Rattle.std.proofs.Common.{rules}
use Rattle.dt_text.specs.Lexeme.Contexts.{step}
use Rattle.dt_text.proofs.lexeme.context.Context.step.Goals as goal

pub returns-in_default : goal.returns-in_default
unfolding step
returns-in_default c = search rules
