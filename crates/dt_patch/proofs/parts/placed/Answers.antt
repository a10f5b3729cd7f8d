use Rattle.std.proofs.Common.{sym, refl}
use Rattle.dt_patch.proofs.parts.placed.Goals as goal

pub returns-in-Ok-Some-clause-own : goal.returns-in-Ok-Some-clause-own
returns-in-Ok-Some-clause-own c = λ d before a r. rw c.in-Ok-Some.field-0-is at (c.in-Ok-Some.ensures.reached d before a r)

pub returns-in-Ok-Some-clause-stands : goal.returns-in-Ok-Some-clause-stands
returns-in-Ok-Some-clause-stands c = λ d a. sym (rw c.in-Ok-Some.field-0-is at (c.in-Ok-Some.ensures.stands d a))

pub returns-in-Ok-None-clause-stands : goal.returns-in-Ok-None-clause-stands
returns-in-Ok-None-clause-stands c = λ d a. (refl, sym (rw c.in-Ok-None.field-0-is at (c.in-Ok-None.ensures.stands d a)))

pub returns-in-Err-clause-stands : goal.returns-in-Err-clause-stands
returns-in-Err-clause-stands c = λ d a. absurd (c.in-Err.ensures.stands d a)

pub returns-in-Ok-Some-clause-none : goal.returns-in-Ok-Some-clause-none
returns-in-Ok-Some-clause-none c = λ n. absurd (cc (c.in-Ok-Some.ensures.refused n))

pub returns-in-Ok-None-clause-none : goal.returns-in-Ok-None-clause-none
returns-in-Ok-None-clause-none c = λ n. absurd (cc (c.in-Ok-None.ensures.refused n))
