-- What an index finds, and what a walk would.
use Rattle.std.proofs.Common.{◌≡◌, ◌∙◌, ap, refl, ℕ, zero, suc, ◌<◌, false, cond, List, [], ◌∷◌, length, get_or, map, arith}
use Rattle.std.specs.Prelude.{Some, None, position, slice_get}
use Rattle.std.specs.List.{find}
use Rattle.std.specs.Str.{bytes_eq}
use Rattle.std.proofs.lemmas.List.{length-map}
use Rattle.std.proofs.lemmas.List.Folds.{find_at}
use Rattle.bus_plan.specs.PlanPaths.{is_among}
use Rattle.bus_plan.proofs.BoolLemmas.{or-left, or-right}
use Rattle.bus_plan.proofs.DistinctLemmas.{place-within}
use Rattle.bus_plan.proofs.ListLemmas.{position_or_len-map}
use Rattle.bus_plan.proofs.PathLemmas.{position-known, position-unknown}

get-within : {A : Type 0} (xs : List A) (i : ℕ) (d : A) → i < length xs → slice_get xs i ≡ Some (get_or xs i d)
get-within [] i d within = absurd (omega arith)
get-within (x ∷ xs) zero d within = refl
get-within (x ∷ xs) (suc i) d within = get-within xs i d (omega arith)

module _ {A : Type 0} (f : A → List ℕ) (path : List ℕ) where
  pub place-inside : (xs : List A) (i : ℕ) → position (bytes_eq path) (map f xs) ≡ Some i → i < length xs
  place-inside xs i e =
      let known = position-known path (map f xs) i e in
      let place = known.1 in
      let within = place-within (map f xs) path known.0 in
      let long : length (map f xs) ≡ length xs = length-map xs f in
      omega (arith, place, within, long)

  pub found-at : (xs : List A) (i : ℕ) (d : A) → position (bytes_eq path) (map f xs) ≡ Some i → find (λ x. bytes_eq path (f x)) xs ≡ Some (get_or xs i d)
  found-at xs i d e =
      find_at (λ x. bytes_eq path (f x)) xs
      ∙ ap (slice_get xs) (position_or_len-map f (bytes_eq path) xs ∙ (position-known path (map f xs) i e).1)
      ∙ get-within xs i d (place-inside xs i e)

  absent-find : (xs : List A) → is_among path (map f xs) ≡ false → find (λ x. bytes_eq path (f x)) xs ≡ None
  absent-find [] h = refl
  absent-find (x ∷ xs) h =
      ap (λ t. cond t (Some x) (find (λ x. bytes_eq path (f x)) xs)) (or-left _ _ h) ∙ absent-find xs (or-right (bytes_eq path (f x)) _ h)

  pub not-found : (xs : List A) → position (bytes_eq path) (map f xs) ≡ None → find (λ x. bytes_eq path (f x)) xs ≡ None
  not-found xs e = absent-find xs (position-unknown path (map f xs) e)
