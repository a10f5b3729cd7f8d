use Rattle.std.proofs.Common.{sym, ◌∙◌, inl, inr}
use Rattle.dtman_view_c.proofs.Refusals.{never}
use Rattle.dtman_view_c.proofs.nopping.dtman_edit_nop_property.Goals as goal

pub returns-in-Ok-clause-nopped : goal.returns-in-Ok-clause-nopped
returns-in-Ok-clause-nopped c = λ e. c.in-Ok.ensures.nopped

pub returns-in-Ok-clause-fault : goal.returns-in-Ok-clause-fault
returns-in-Ok-clause-fault c = inl c.done.ensures

pub returns-in-Ok-clause-refused : goal.returns-in-Ok-clause-refused
returns-in-Ok-clause-refused c = inl c.done.ensures

pub returns-in-Err-clause-nopped : goal.returns-in-Err-clause-nopped
returns-in-Err-clause-nopped c = λ e. absurd (never c.in-Err.error (sym c.unchanged.ensures ∙ e))

pub returns-in-Err-clause-fault : goal.returns-in-Err-clause-fault
returns-in-Err-clause-fault c = inr (c.in-Err.error, c.in-Err.ensures.fault, c.unchanged.ensures)

pub returns-in-Err-clause-refused : goal.returns-in-Err-clause-refused
returns-in-Err-clause-refused c = inr c.in-Err.ensures.refused
