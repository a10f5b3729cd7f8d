use Rattle.std.proofs.Common.{Ok, refl}
use Rattle.dt_patch.specs.declared.view.stepping.Step.TheVariants as step
use Rattle.dtman_view_c.proofs.stepping.dtman_view_step.Goals as goal

pub returns-in-Ok-Node-clause-stands : goal.returns-in-Ok-Node-clause-stands
returns-in-Ok-Node-clause-stands c = λ d fs a. (Ok (step.Node c.in-Ok-Node.next c.in-Ok-Node.levels), rw c.in-Ok-Node.field-0-is at (c.in-Ok-Node.ensures.stands d fs a), (c.done.ensures, refl))

pub returns-in-Ok-Out-clause-stands : goal.returns-in-Ok-Out-clause-stands
returns-in-Ok-Out-clause-stands c = λ d fs a. (Ok (step.Out c.in-Ok-Out.at), rw c.in-Ok-Out.field-0-is at (c.in-Ok-Out.ensures.stands d fs a), c.out.ensures)

pub returns-in-Ok-Over-clause-stands : goal.returns-in-Ok-Over-clause-stands
returns-in-Ok-Over-clause-stands c = λ d fs a. (Ok (step.Over c.in-Ok-Over.left), rw c.in-Ok-Over.field-0-is at (c.in-Ok-Over.ensures.stands d fs a), (c.nothing.ensures, refl))

pub returns-in-Err-clause-stands : goal.returns-in-Err-clause-stands
returns-in-Err-clause-stands c = λ d fs a. absurd (c.in-Err.ensures.stands d fs a)
