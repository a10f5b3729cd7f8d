use Rattle.std.proofs.Common.{ap, sym, ◌∙◌, inl, inr}
use Rattle.dtman_view_c.specs.Told.{edited}
use Rattle.dtman_view_c.proofs.Refusals.{never}
use Rattle.dtman_view_c.proofs.creating.dtman_edit_create.Goals as goal

pub returns-in-Ok-clause-made : goal.returns-in-Ok-clause-made
returns-in-Ok-clause-made c = λ e. c.in-Ok.ensures.made

pub returns-in-Ok-clause-held : goal.returns-in-Ok-clause-held
returns-in-Ok-clause-held c = λ e. c.in-Ok.ensures.held

pub returns-in-Ok-clause-fault : goal.returns-in-Ok-clause-fault
returns-in-Ok-clause-fault c = c.done.ensures ∙ ap edited (sym c.in-Ok.ensures.fault)

pub returns-in-Ok-clause-refused : goal.returns-in-Ok-clause-refused
returns-in-Ok-clause-refused c = inl c.done.ensures

pub returns-in-Err-clause-made : goal.returns-in-Err-clause-made
returns-in-Err-clause-made c = λ e. absurd (never c.in-Err.error (sym c.unchanged.ensures ∙ e))

pub returns-in-Err-clause-held : goal.returns-in-Err-clause-held
returns-in-Err-clause-held c = λ e. absurd (never c.in-Err.error (sym c.unchanged.ensures ∙ e))

pub returns-in-Err-clause-fault : goal.returns-in-Err-clause-fault
returns-in-Err-clause-fault c = c.unchanged.ensures ∙ ap edited (sym c.in-Err.ensures.fault)

pub returns-in-Err-clause-refused : goal.returns-in-Err-clause-refused
returns-in-Err-clause-refused c = inr c.in-Err.ensures.refused
