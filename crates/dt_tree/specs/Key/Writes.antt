-- That equal names are written alike.
use Rattle.std.proofs.Common.{◌≡◌, ℕ, true, List, [], ◌∷◌, ap}
use Rattle.std.specs.Str.{bytes_eq}
use Rattle.std.proofs.lemmas.Slice.Eq.{bytes_eq-Decides}

pub same_writes : (x y : List ℕ) → bytes_eq x y ≡ true → (x ∷ []) ≡ (y ∷ [])
same_writes x y same = ap (λ (k : List ℕ). k ∷ []) ((bytes_eq-Decides x y).0 same)
