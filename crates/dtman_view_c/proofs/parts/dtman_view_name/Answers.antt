use Rattle.dtman_view_c.proofs.parts.dtman_view_name.Goals as goal

pub returns-in-Ok : goal.returns-in-Ok
returns-in-Ok c = λ d a. (c.done.ensures, c.in-Ok.ensures.stands d a)

pub returns-in-Err : goal.returns-in-Err
returns-in-Err c = λ d a. absurd (c.in-Err.ensures.stands d a)
