-- Searches of a list by what its elements show.
use Rattle.std.proofs.Common.{◌≡◌, ◌+◌, Bool, false, cond, not, ◌||◌, List, [], ◌∷◌, ◌++◌, map, refl, ap, ◌∙◌}
use Rattle.std.specs.Prelude.{position, if◌then◌else◌}
use Rattle.std.specs.List.{position_or_len, list_any}
use Rattle.std.proofs.lemmas.List.{length-map, map-append}
use Rattle.indexmap.specs.IndexSet.{insert_key}

module _ {A B : Type 0} (f : A → B) (p : B → Bool) where
  pub position_or_len-map : (xs : List A) → position_or_len (λ x. p (f x)) xs ≡ position_or_len p (map f xs)
  position_or_len-map [] = refl
  position_or_len-map (x ∷ xs) = ap (λ n. cond (not (p (f x))) (1 + n) 0) (position_or_len-map xs)

  pub position-map : (xs : List A) → position (λ x. p (f x)) xs ≡ position p (map f xs)
  position-map xs = rw (position_or_len-map xs, length-map xs f) refl

  pub list_any-map : (xs : List A) → list_any (λ x. p (f x)) xs ≡ list_any p (map f xs)
  list_any-map [] = refl
  list_any-map (x ∷ xs) = ap (λ b. p (f x) || b) (list_any-map xs)

-- a key that shows something new goes last
pub map-insert_key : {A B : Type 0} (f : A → B) (eq : B → B → Bool) (ks : List A) (k : A)
    → list_any (eq (f k)) (map f ks) ≡ false → map f (insert_key (λ x y. eq (f x) (f y)) ks k) ≡ map f ks ++ f k ∷ []
map-insert_key f eq ks k new =
    let absent : list_any (λ y. eq (f k) (f y)) ks ≡ false = list_any-map f (eq (f k)) ks ∙ new in
    ap (λ b. map f (if b then ks else ks ++ k ∷ [])) absent ∙ map-append f ks (k ∷ [])
