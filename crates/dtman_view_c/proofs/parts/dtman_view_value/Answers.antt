use Rattle.std.proofs.Common.{◌≡◌, List, ℕ, Option, Some, None, refl, subst}
use Rattle.dtman_view_c.specs.declared.parts.ViewPart.{ViewPart}
use Rattle.dtman_view_c.specs.declared.told.ViewTold.{ViewTold}
use Rattle.dtman_view_c.specs.Parts.{IsPart}
use Rattle.dtman_view_c.proofs.parts.dtman_view_value.Goals as goal

as_told : (o told_of : Option (List ℕ)) (part : ViewPart) (told : ViewTold) → o ≡ told_of → IsPart o part told → IsPart told_of part told
as_told o told_of part told e h = subst (λ (x : Option (List ℕ)). IsPart x part told) e h

pub returns-in-Ok-Some : goal.returns-in-Ok-Some
returns-in-Ok-Some c = λ d a. as_told (Some c.in-Ok-Some.value.now) _ (record { bytes = c.in-Ok-Some.value }) c.done.result (rw c.in-Ok-Some.field-0-is at (c.in-Ok-Some.ensures.stands d a)) (c.done.ensures, refl)

pub returns-in-Ok-None : goal.returns-in-Ok-None
returns-in-Ok-None c = λ d a. as_told None _ c.args.part.now c.nothing.result (rw c.in-Ok-None.field-0-is at (c.in-Ok-None.ensures.stands d a)) c.nothing.ensures

pub returns-in-Err : goal.returns-in-Err
returns-in-Err c = λ d a. absurd (c.in-Err.ensures.stands d a)
