use Rattle.std.proofs.Common.{◌≡◌, Option, Some, refl, subst}
use Rattle.dt_patch.specs.declared.view.regions.Region.{Region}
use Rattle.dtman_view_c.specs.declared.told.ViewTold.{ViewTold}
use Rattle.dtman_view_c.specs.Parts.{IsGiven}
use Rattle.dtman_view_c.proofs.regions.dtman_view_region.Goals as goal

as_told : (o told_of : Option Region) (into : Region) (told : ViewTold) → o ≡ told_of → IsGiven o into told → IsGiven told_of into told
as_told o told_of into told e h = subst (λ (x : Option Region). IsGiven x into told) e h

pub returns-in-Ok-Some-clause-stands : goal.returns-in-Ok-Some-clause-stands
returns-in-Ok-Some-clause-stands c = λ p d s t.
    as_told (Some c.in-Ok-Some.region) _ c.in-Ok-Some.region c.done.result (rw c.in-Ok-Some.field-0-is at (c.in-Ok-Some.ensures.stands p d s t)) (c.done.ensures, refl)
