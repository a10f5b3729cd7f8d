use Rattle.std.proofs.Common.{◌≡◌, ℕ, length, Ok, ap, ◌∙◌}
use Rattle.std.specs.Prelude.{Result}
use Rattle.dt_patch.specs.declared.view.error.ViewError.{ViewError}
use Rattle.dtman_view_c.specs.Told.{done}
use Rattle.dtman_view_c.proofs.walking.dtman_view_depth.Goals as goal

ok_same : (x y : ℕ) → ◌≡◌ {A = Result ℕ ViewError} (Ok x) (Ok y) → x ≡ y
ok_same x y e = cc e

pub returns-in-Ok-clause-stands : goal.returns-in-Ok-clause-stands
returns-in-Ok-clause-stands c = λ tree path v i. c.done.ensures ∙ ap done (ok_same c.in-Ok.depth (length path) (c.in-Ok.ensures.stands tree path v i))

pub returns-in-Err-clause-stands : goal.returns-in-Err-clause-stands
returns-in-Err-clause-stands c = λ tree path v i. absurd (cc (c.in-Err.ensures.stands tree path v i))
