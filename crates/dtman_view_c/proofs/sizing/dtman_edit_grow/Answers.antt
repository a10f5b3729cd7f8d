use Rattle.std.proofs.Common.{ap, sym, ◌∙◌, inl, inr}
use Rattle.dtman_view_c.specs.Told.{edited}
use Rattle.dtman_view_c.proofs.Refusals.{never}
use Rattle.dtman_view_c.proofs.sizing.dtman_edit_grow.Goals as goal

pub returns-in-Ok-clause-held : goal.returns-in-Ok-clause-held
returns-in-Ok-clause-held c = λ e tree h. c.in-Ok.ensures.held tree h

pub returns-in-Ok-clause-told : goal.returns-in-Ok-clause-told
returns-in-Ok-clause-told c = λ e. c.in-Ok.ensures.told

pub returns-in-Ok-clause-fault : goal.returns-in-Ok-clause-fault
returns-in-Ok-clause-fault c = λ tree h. c.done.ensures ∙ ap edited (sym (c.in-Ok.ensures.fault tree h))

pub returns-in-Ok-clause-refused : goal.returns-in-Ok-clause-refused
returns-in-Ok-clause-refused c = inl c.done.ensures

pub returns-in-Err-clause-held : goal.returns-in-Err-clause-held
returns-in-Err-clause-held c = λ e. absurd (never c.in-Err.error (sym c.unchanged.ensures ∙ e))

pub returns-in-Err-clause-told : goal.returns-in-Err-clause-told
returns-in-Err-clause-told c = λ e. absurd (never c.in-Err.error (sym c.unchanged.ensures ∙ e))

pub returns-in-Err-clause-fault : goal.returns-in-Err-clause-fault
returns-in-Err-clause-fault c = λ tree h. c.unchanged.ensures ∙ ap edited (sym (c.in-Err.ensures.fault tree h))

pub returns-in-Err-clause-refused : goal.returns-in-Err-clause-refused
returns-in-Err-clause-refused c = inr c.in-Err.ensures.refused
