use Rattle.std.proofs.Common.{inl, inr}
use Rattle.dtman_view_c.proofs.opening.dtman_view_open.Goals as goal

pub returns-in-Ok-clause-opened : goal.returns-in-Ok-clause-opened
returns-in-Ok-clause-opened c = inl (c.done.ensures, c.in-Ok.ensures.found)

pub returns-in-Ok-clause-only : goal.returns-in-Ok-clause-only
returns-in-Ok-clause-only c = λ tree s. (c.done.ensures, c.in-Ok.ensures.only tree s)

pub returns-in-Err-clause-opened : goal.returns-in-Err-clause-opened
returns-in-Err-clause-opened c = inr (c.in-Err.error, c.refused.ensures)

pub returns-in-Err-clause-only : goal.returns-in-Err-clause-only
returns-in-Err-clause-only c = λ tree s. absurd (c.in-Err.ensures.only tree s)
