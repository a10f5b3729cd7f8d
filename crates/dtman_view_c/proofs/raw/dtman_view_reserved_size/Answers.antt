use Rattle.std.proofs.Common.{◌≡◌, ℕ, Some, ap, ◌∙◌}
use Rattle.dtman_view_c.specs.Told.{done}
use Rattle.dtman_view_c.proofs.raw.dtman_view_reserved_size.Goals as goal

same : (x y : ℕ) → Some x ≡ Some y → x ≡ y
same x y e = cc e

pub returns-in-Some : goal.returns-in-Some
returns-in-Some c = λ tree v. c.done.ensures ∙ ap done (same _ _ (c.in-Some.ensures.size tree v))

pub returns-in-None : goal.returns-in-None
returns-in-None c = λ tree v. absurd (cc (c.in-None.ensures.size tree v))
