-- A list in which one entry stands for another.
use Rattle.std.proofs.Common.{◌≡◌, inl, inr, ℕ, ◌<◌, List, length, get_or, slice_set, ap, sym, ◌∙◌}
use Rattle.std.proofs.lemmas.Bool.{cases_eq}
use Rattle.std.proofs.lemmas.List.{get_or-set_same, get_or-set_other}

-- what the entry in its place has from the entry that was there, each place has from before
pub kept-at : {A B : Type 0} (f : A → B) (xs : List A) (i : ℕ) (x none : A) → i < length xs → f x ≡ f (get_or xs i none) → (k : ℕ) → f (get_or (slice_set xs i x) k none) ≡ f (get_or xs k none)
kept-at f xs i x none within same k = elim (cases_eq k i) [
  | inl here ↦ ap (λ j. f (get_or (slice_set xs i x) j none)) here ∙ ap f (get_or-set_same xs i x none within) ∙ same ∙ ap (λ j. f (get_or xs j none)) (sym here)
  | inr there ↦ ap f (get_or-set_other xs i k x none there)
]
