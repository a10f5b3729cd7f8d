-- The properties of one node, where one is put in front.
use Rattle.std.proofs.Common.{◌≡◌, false, List, ◌∷◌, cond, ap, ◌∙◌}
use Rattle.dt_source.specs.TreeMeaning.Paths.{Path, same_path}
use Rattle.dt_source.specs.TreeMeaning.Edits.{Definition}
use Rattle.dt_source.specs.TreeMeaning.References.{held}
use Rattle.dt_live.proofs.BuilderLemmas.PathFacts.{same-itself}

-- ---- the properties of one node
module _ {V : Type 0} where
  pub held-other : (e : Definition V) (es : List (Definition V)) (p : Path) → same_path p e.path ≡ false → held (e ∷ es) p ≡ held es p
  held-other e es p other = ap (λ t. cond t (e ∷ held es p) (held es p)) other

  pub held-own : (e : Definition V) (es : List (Definition V)) (p : Path) → e.path ≡ p → held (e ∷ es) p ≡ e ∷ held es p
  held-own e es p is = ap (λ t. cond t (e ∷ held es p) (held es p)) (ap (same_path p) is ∙ same-itself p)
