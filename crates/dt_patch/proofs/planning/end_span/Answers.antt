use Rattle.std.proofs.Common.{refl}
use Rattle.dt_patch.proofs.planning.end_span.Goals as goal

pub returns-in-Ok-clause-stands : goal.returns-in-Ok-clause-stands
returns-in-Ok-clause-stands c = λ d before s r. record { reached = c.in-Ok.ensures.reached d before s r; empty = refl }

pub returns-in-Err-clause-stands : goal.returns-in-Err-clause-stands
returns-in-Err-clause-stands c = λ d before s r. absurd (c.in-Err.ensures.reached d before s r)
