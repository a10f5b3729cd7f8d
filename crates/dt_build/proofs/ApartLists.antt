-- What is true of each element of a list, or of each two.
use Rattle.std.proofs.Common.{◌≡◌, Bool, true, false, List, [], ◌∷◌, ◌++◌, map, refl}
use Rattle.std.specs.List.{filter}
pub use Rattle.dt_build.specs.Private.Named.{InPairs}
use Rattle.dt_live.proofs.Each.{Each, each-append, each-kept, each-more, each-same}

-- ---- each
module _ {A : Type 0} (P : A → Type 0) where
  passed-by : (t : A → Bool) (x : A) (xs : List A) (b : Bool) → t x ≡ b → (b ≡ true → P x) → Each P (filter t xs) → Each P (filter t (x ∷ xs))
  passed-by t x xs true e h hs = rw e (h refl, hs)
  passed-by t x xs false e h hs = rw e hs

  -- what passes a test
  pub each-passed : (t : A → Bool) (xs : List A) → ((x : A) → t x ≡ true → P x) → Each P (filter t xs)
  each-passed t [] h = tt
  each-passed t (x ∷ xs) h = passed-by t x xs (t x) refl (h x) (each-passed t xs h)

  pub each-from : {B : Type 0} (f : B → A) (xs : List B) → Each P (map f xs) → Each (λ x. P (f x)) xs
  each-from f [] h = tt
  each-from f (x ∷ xs) h = (h.0, each-from f xs h.1)

  pub each-any : (xs : List A) → ((x : A) → P x) → Each P xs
  each-any [] h = tt
  each-any (x ∷ xs) h = (h x, each-any xs h)

-- ---- each two
module _ {A : Type 0} (R : A → A → Type 0) where
  paired-by : (t : A → Bool) (x : A) (xs : List A) (b : Bool) → t x ≡ b → Each (R x) xs → InPairs R (filter t xs) → InPairs R (filter t (x ∷ xs))
  paired-by t x xs true e h hs = rw e (each-kept (R x) t xs h, hs)
  paired-by t x xs false e h hs = rw e hs

  pub pairs-kept : (t : A → Bool) (xs : List A) → InPairs R xs → InPairs R (filter t xs)
  pairs-kept t [] h = tt
  pairs-kept t (x ∷ xs) h = paired-by t x xs (t x) refl h.0 (pairs-kept t xs h.1)

  pub pairs-behind : (xs ys : List A) → InPairs R xs → InPairs R ys → Each (λ x. Each (R x) ys) xs → InPairs R (xs ++ ys)
  pairs-behind [] ys a b between = b
  pairs-behind (x ∷ xs) ys a b between = (each-append (R x) xs ys a.0 between.0, pairs-behind xs ys a.1 b between.1)

  last-one : (y : A) (xs : List A) → Each (λ x. R x y) xs → Each (λ x. Each (R x) (y ∷ [])) xs
  last-one y [] h = tt
  last-one y (x ∷ xs) h = ((h.0, tt), last-one y xs h.1)

  pub pairs-last : (xs : List A) (y : A) → InPairs R xs → Each (λ x. R x y) xs → InPairs R (xs ++ y ∷ [])
  pairs-last xs y a h = pairs-behind xs (y ∷ []) a (tt, tt) (last-one y xs h)

  pub pairs-same : {B : Type 0} (f : B → A) (xs : List B) → InPairs (λ x y. R (f x) (f y)) xs → InPairs R (map f xs)
  pairs-same f [] h = tt
  pairs-same f (x ∷ xs) h = (each-same (R (f x)) f xs h.0, pairs-same f xs h.1)

  pub pairs-from : {B : Type 0} (f : B → A) (xs : List B) → InPairs R (map f xs) → InPairs (λ x y. R (f x) (f y)) xs
  pairs-from f [] h = tt
  pairs-from f (x ∷ xs) h = (each-from (R (f x)) f xs h.0, pairs-from f xs h.1)

pub pairs-more : {A : Type 0} (R S : A → A → Type 0) (xs : List A) → ((x y : A) → R x y → S x y) → InPairs R xs → InPairs S xs
pairs-more R S [] f h = tt
pairs-more R S (x ∷ xs) f h = (each-more (R x) (S x) xs (f x) h.0, pairs-more R S xs f h.1)
