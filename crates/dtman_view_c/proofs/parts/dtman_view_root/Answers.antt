use Rattle.std.proofs.Common.{refl}
use Rattle.dtman_view_c.proofs.parts.dtman_view_root.Goals as goal

pub returns-in-Ok : goal.returns-in-Ok
returns-in-Ok c = λ tree v. rw c.done.ensures (refl, c.in-Ok.ensures.stands tree v)

pub returns-in-Err : goal.returns-in-Err
returns-in-Err c = λ tree v. absurd (c.in-Err.ensures.stands tree v)
