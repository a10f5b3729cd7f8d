-- The first of the names between slashes.
use Rattle.std.proofs.Common.{◌≡◌, ℕ, ◌+◌, ◌<◌, Bool, true, false, List, ◌∷◌, ◌++◌, length, get_or, take, drop, sym, ap, ◌∙◌, take-append-drop}
use Rattle.std.specs.List.{All, slice_split}
use Rattle.std.proofs.lemmas.List.{drop_more}
use Rattle.std.proofs.lemmas.List.Splits.{slice_split_at}

pub slice_split_read : {X : Type 0} (p : X → Bool) (xs : List X) (i : ℕ) (y : X) → i < length xs → y ≡ get_or xs i y → p y ≡ true → All (λ x. p x ≡ false) (take i xs) → slice_split p xs ≡ take i xs ∷ slice_split p (drop (i + 1) xs)
slice_split_read p xs i y lt read e h =
    let parts : xs ≡ take i xs ++ y ∷ drop (i + 1) xs =
    sym (take-append-drop i xs) ∙ ap (λ zs. take i xs ++ zs) (drop_more xs i y lt ∙ ap (λ z. z ∷ drop (i + 1) xs) (sym read)) in
    ap (slice_split p) parts ∙ slice_split_at p (take i xs) y (drop (i + 1) xs) h e
