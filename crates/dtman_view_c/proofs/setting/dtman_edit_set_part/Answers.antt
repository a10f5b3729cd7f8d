use Rattle.std.proofs.Common.{ap, sym, refl, ◌∙◌, inl, inr}
use Rattle.dt_patch.specs.declared.error.PatchError.TheVariants.{BadOffset, Blob}
use Rattle.dtman_view_c.specs.Told.{edited, unchanged}
use Rattle.dtman_view_c.proofs.Refusals.{never, not_ok, same_error}
use Rattle.dtman_view_c.proofs.setting.dtman_edit_set_part.Goals as goal

pub returns-in-Ok-clause-set : goal.returns-in-Ok-clause-set
returns-in-Ok-clause-set c = λ e. c.in-Ok.ensures.set

pub returns-in-Ok-clause-fault : goal.returns-in-Ok-clause-fault
returns-in-Ok-clause-fault c = λ f view d o a. c.done.ensures ∙ ap edited (sym (c.in-Ok.ensures.fault f view d o a))

pub returns-in-Ok-clause-none : goal.returns-in-Ok-clause-none
returns-in-Ok-clause-none c = λ f view o n. absurd (not_ok _ BadOffset _ refl (c.in-Ok.ensures.none f view o n))

pub returns-in-Ok-clause-header : goal.returns-in-Ok-clause-header
returns-in-Ok-clause-header c = λ error f. absurd (not_ok _ (Blob error) _ refl (c.in-Ok.ensures.header error f))

pub returns-in-Ok-clause-unchanged : goal.returns-in-Ok-clause-unchanged
returns-in-Ok-clause-unchanged c = inl c.done.ensures

pub returns-in-Err-clause-set : goal.returns-in-Err-clause-set
returns-in-Err-clause-set c = λ e. absurd (never c.in-Err.error (sym c.unchanged.ensures ∙ e))

pub returns-in-Err-clause-fault : goal.returns-in-Err-clause-fault
returns-in-Err-clause-fault c = λ f view d o a. c.unchanged.ensures ∙ ap edited (sym (c.in-Err.ensures.fault f view d o a))

pub returns-in-Err-clause-none : goal.returns-in-Err-clause-none
returns-in-Err-clause-none c = λ f view o n. c.unchanged.ensures ∙ ap unchanged (same_error c.in-Err.error BadOffset _ refl (c.in-Err.ensures.none f view o n))

pub returns-in-Err-clause-header : goal.returns-in-Err-clause-header
returns-in-Err-clause-header c = λ error f. c.unchanged.ensures ∙ ap unchanged (same_error c.in-Err.error (Blob error) _ refl (c.in-Err.ensures.header error f))

pub returns-in-Err-clause-unchanged : goal.returns-in-Err-clause-unchanged
returns-in-Err-clause-unchanged c = inr c.in-Err.ensures.refused
