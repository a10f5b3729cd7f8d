use Rattle.std.proofs.Common.{◌≡◌, ap, sym, ◌∙◌, arith}
use Rattle.dtman_view_c.specs.declared.told.ViewTold.{ViewTold}
use Rattle.dtman_view_c.specs.Told.{by_fault}
use Rattle.dtman_view_c.proofs.opening.dtman_view_over.Goals as goal

pub returns-in-Ok-clause-shown : goal.returns-in-Ok-clause-shown
returns-in-Ok-clause-shown c = λ tree s. (c.done.ensures, c.in-Ok.ensures.shown tree s)

pub returns-in-Ok-clause-blocks : goal.returns-in-Ok-clause-blocks
returns-in-Ok-clause-blocks c = λ e. c.in-Ok.ensures.blocks

pub returns-in-Ok-clause-fault : goal.returns-in-Ok-clause-fault
returns-in-Ok-clause-fault c = c.done.ensures ∙ ap by_fault (sym c.in-Ok.ensures.fault)

pub returns-in-Err-clause-shown : goal.returns-in-Err-clause-shown
returns-in-Err-clause-shown c = λ tree s. absurd (c.in-Err.ensures.shown tree s)

pub returns-in-Err-clause-blocks : goal.returns-in-Err-clause-blocks
returns-in-Err-clause-blocks c = λ e. let bad : 2 ≡ 0 = ap (λ (t : ViewTold). t.status) (sym c.refused.ensures ∙ e) in absurd (omega (arith, bad))

pub returns-in-Err-clause-fault : goal.returns-in-Err-clause-fault
returns-in-Err-clause-fault c = c.refused.ensures ∙ ap by_fault (sym c.in-Err.ensures.fault)
