use Rattle.dt_text.specs.Expression.ReadingExpressions.{primary_at, primary_made}
use Rattle.dt_text.proofs.expression.expression.primary.Goals as goal

pub returns-clause-gives : goal.returns-clause-gives
unfolding primary_at primary_made
returns-clause-gives c = c.primary_within.ensures.gives
