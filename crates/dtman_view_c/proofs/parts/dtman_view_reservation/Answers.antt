use Rattle.std.proofs.Common.{refl}
use Rattle.dtman_view_c.proofs.parts.dtman_view_reservation.Goals as goal

pub returns-in-Some : goal.returns-in-Some
returns-in-Some c = λ tree v. rw (← c.in-Some.ensures tree v) (c.done.ensures, refl, refl)

pub returns-in-None : goal.returns-in-None
returns-in-None c = λ tree v. rw (← c.in-None.ensures tree v) c.nothing.ensures
