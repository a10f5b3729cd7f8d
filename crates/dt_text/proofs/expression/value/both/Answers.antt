use Rattle.std.proofs.Common.{refl}
use Rattle.dt_text.proofs.expression.value.both.Goals as goal

pub returns-in-Ok-Err : goal.returns-in-Ok-Err
returns-in-Ok-Err c = rw (c.in-Ok-Err.is-0, c.in-Ok-Err.is-1) refl
