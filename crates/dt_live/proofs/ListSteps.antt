-- One number more in a list.
use Rattle.std.proofs.Common.{◌≡◌, ◌≢◌, ℕ, ◌<◌, Bool, true, false, ◌==◌, List, [], ◌∷◌, ◌++◌, length, get_or, set, if◌then◌else◌, refl, sym, ap, ◌∙◌, append-nil}
use Rattle.std.proofs.lemmas.Bool.{eqb-true, eq-eqb}
use Rattle.std.proofs.lemmas.List.{get_or-set_same, get_or-set_other}

-- the list of the owner gets it
pub pushed-list : (old : List (List ℕ)) (owner number : ℕ) → owner < length old
    → (n : ℕ) → get_or (set old owner (get_or old owner [] ++ number ∷ [])) n [] ≡ get_or old n [] ++ (if n == owner then number ∷ [] else [])
pushed-list old owner number within n = by-test (n == owner) refl where
  by-test : (b : Bool) → (n == owner) ≡ b → get_or (set old owner (get_or old owner [] ++ number ∷ [])) n [] ≡ get_or old n [] ++ (if b then number ∷ [] else [])
  by-test true e =
      let same : n ≡ owner = eqb-true n owner e in
      ap (λ k. get_or (set old owner (get_or old owner [] ++ number ∷ [])) k []) same
      ∙ get_or-set_same old owner (get_or old owner [] ++ number ∷ []) [] within
      ∙ ap (λ k. get_or old k [] ++ number ∷ []) (sym same)
  by-test false e =
      let other : n ≢ owner = λ is. absurd (cc (eq-eqb n owner is)) in
      get_or-set_other old owner n (get_or old owner [] ++ number ∷ []) [] other ∙ sym (append-nil (get_or old n []))
