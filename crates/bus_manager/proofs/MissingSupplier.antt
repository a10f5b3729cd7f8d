-- The first supplier that isn't in a set.
use Rattle.std.proofs.Common.{◌≡◌, ℕ, Bool, true, false, not, ◌&&◌, ◌||◌, List, [], ◌∷◌, Some, None, eqb, cond, refl, sym, ap, ◌∙◌, eq-eqb}
use Rattle.std.specs.List.{find, list_any, list_all}
use Rattle.std.proofs.lemmas.Bool.{or_left, or_right}

-- by the first test and the rest
go-found : (p : ℕ → Bool) (y : ℕ) (xs : List ℕ) (x : ℕ) (b : Bool) → p y ≡ b
    → (Some x ≡ find (λ s. not (p s)) xs → (list_any (λ s. eqb s x) xs ≡ true) × (p x ≡ false))
    → Some x ≡ cond (not b) (Some y) (find (λ s. not (p s)) xs) → ((eqb y x || list_any (λ s. eqb s x) xs) ≡ true) × (p x ≡ false)
go-found p y xs x false is rest e =
    let same : x ≡ y = cc
    in (or_left (eqb y x) (list_any (λ s. eqb s x) xs) (eq-eqb y x (sym same)), ap p same ∙ is)
go-found p y xs x true is rest e = let h = rest e in (or_right (eqb y x) (list_any (λ s. eqb s x) xs) h.0, h.1)

pub found : (p : ℕ → Bool) (xs : List ℕ) (x : ℕ) → Some x ≡ find (λ s. not (p s)) xs → (list_any (λ s. eqb s x) xs ≡ true) × (p x ≡ false)
found p [] x e = let no : ⊥ = cc in absurd no
found p (y ∷ xs) x e = go-found p y xs x (p y) refl (found p xs x) e

go-none : (p : ℕ → Bool) (y : ℕ) (xs : List ℕ) (b : Bool) → (None ≡ find (λ s. not (p s)) xs → list_all p xs ≡ true)
    → None ≡ cond (not b) (Some y) (find (λ s. not (p s)) xs) → (b && list_all p xs) ≡ true
go-none p y xs false rest e = let no : ⊥ = cc in absurd no
go-none p y xs true rest e = rest e

pub none-found : (p : ℕ → Bool) (xs : List ℕ) → None ≡ find (λ s. not (p s)) xs → list_all p xs ≡ true
none-found p [] e = refl
none-found p (y ∷ xs) e = go-none p y xs (p y) (none-found p xs) e
