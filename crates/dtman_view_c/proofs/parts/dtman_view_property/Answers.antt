use Rattle.dtman_view_c.proofs.parts.dtman_view_property.Goals as goal

pub returns-in-Ok : goal.returns-in-Ok
returns-in-Ok c = λ p ps s. let h = c.in-Ok.ensures.stands p ps s in (c.done.ensures, h.0, h.1)

pub returns-in-Err : goal.returns-in-Err
returns-in-Err c = λ p ps s. absurd (c.in-Err.ensures.stands p ps s)
