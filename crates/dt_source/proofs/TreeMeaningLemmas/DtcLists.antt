-- What is true of each element of a list, or of each two.
use Rattle.std.proofs.Common.{◌≡◌, ℕ, zero, suc, ◌<◌, Bool, true, false, ◌||◌, List, [], ◌∷◌, ◌++◌, length, get_or, reverse, Some, if◌then◌else◌, refl, sym, ap, ◌∙◌, subst, true≢false, arith}
use Rattle.std.specs.Prelude.{All}
use Rattle.std.specs.List.{filter, find, flat_map, list_any}
use Rattle.std.proofs.lemmas.List.{reverse-append}

abbrev pub Each : {A : Type 0} → (A → Type 0) → List A → Type 0
Each P [] = Unit {0}
Each P (x ∷ xs) = P x × Each P xs

-- each stands so to all behind it
abbrev pub InPairs : {A : Type 0} → (A → A → Type 0) → List A → Type 0
InPairs R [] = Unit {0}
InPairs R (x ∷ xs) = Each (R x) xs × InPairs R xs

-- ---- each
pub each-more : {A : Type 0} (P Q : A → Type 0) (xs : List A) → ((x : A) → P x → Q x) → Each P xs → Each Q xs
each-more P Q [] f h = tt
each-more P Q (x ∷ xs) f h = (f x h.0, each-more P Q xs f h.1)

pub each-of : {A : Type 0} (P : A → Type 0) (xs : List A) → All P xs → Each P xs
each-of P [] all = tt
each-of P (x ∷ xs) all = (all 0 x (omega arith), each-of P xs (λ i y below. all (suc i) y (omega arith)))

pub each-all : {A : Type 0} (P : A → Type 0) (xs : List A) → Each P xs → (i : ℕ) (d : A) → i < length xs → P (get_or xs i d)
each-all P [] h i d below = absurd (omega arith)
each-all P (x ∷ xs) h zero d below = h.0
each-all P (x ∷ xs) h (suc i) d below = each-all P xs h.1 i d (omega arith)

module _ {A : Type 0} (P : A → Type 0) where
  pub each-append : (xs ys : List A) → Each P xs → Each P ys → Each P (xs ++ ys)
  each-append [] ys a b = b
  each-append (x ∷ xs) ys a b = (a.0, each-append xs ys a.1 b)

  pub each-any : (xs : List A) → ((x : A) → P x) → Each P xs
  each-any [] h = tt
  each-any (x ∷ xs) h = (h x, each-any xs h)

  -- what passes a test
  kept-by : (t : A → Bool) (x : A) (xs : List A) (b : Bool) → t x ≡ b → P x → Each P (filter t xs) → Each P (filter t (x ∷ xs))
  kept-by t x xs true e h hs = rw e (h, hs)
  kept-by t x xs false e h hs = rw e hs

  pub each-kept : (t : A → Bool) (xs : List A) → Each P xs → Each P (filter t xs)
  each-kept t [] h = tt
  each-kept t (x ∷ xs) h = kept-by t x xs (t x) refl h.0 (each-kept t xs h.1)

  passed-by : (t : A → Bool) (x : A) (xs : List A) (b : Bool) → t x ≡ b → (b ≡ true → P x) → Each P (filter t xs) → Each P (filter t (x ∷ xs))
  passed-by t x xs true e h hs = rw e (h refl, hs)
  passed-by t x xs false e h hs = rw e hs

  pub each-passed : (t : A → Bool) (xs : List A) → ((x : A) → t x ≡ true → P x) → Each P (filter t xs)
  each-passed t [] h = tt
  each-passed t (x ∷ xs) h = passed-by t x xs (t x) refl (h x) (each-passed t xs h)

  pub each-flat : {B : Type 0} (Q : B → Type 0) (f : B → List A) (xs : List B) → ((x : B) → Q x → Each P (f x)) → Each Q xs → Each P (flat_map f xs)
  each-flat Q f [] g h = tt
  each-flat Q f (x ∷ xs) g h = each-append (f x) (flat_map f xs) (g x h.0) (each-flat Q f xs g h.1)

  pub each-reverse : (xs : List A) → Each P xs → Each P (reverse xs)
  each-reverse [] h = tt
  each-reverse (x ∷ xs) h = subst (Each P) (sym (reverse-append (x ∷ []) xs)) (each-append (reverse xs) (x ∷ []) (each-reverse xs h.1) (h.0, tt))

  -- one that is found
  pub find-so : (t : A → Bool) (xs : List A) (x : A) → Each P xs → find t xs ≡ Some x → P x
  find-so t [] x h e = absurd (cc)
  find-so t (y ∷ ys) x h e = by_test (t y) e (find-so t ys x h.1) where
    by_test : (b : Bool) → (if b then Some y else find t ys) ≡ Some x → (find t ys ≡ Some x → P x) → P x
    by_test true e rest = let is : y ≡ x = cc in subst P is h.0
    by_test false e rest = rest e

  -- one of them passes the test
  pub any-so : (t : A → Bool) (xs : List A) → Each P xs → list_any t xs ≡ true → (x : A) × (t x ≡ true) × P x
  any-so t [] h e = absurd (true≢false (sym e))
  any-so t (y ∷ ys) h e = by_test (t y) refl e (any-so t ys h.1) where
    by_test : (b : Bool) → t y ≡ b → (b || list_any t ys) ≡ true → (list_any t ys ≡ true → (x : A) × (t x ≡ true) × P x) → (x : A) × (t x ≡ true) × P x
    by_test true is e rest = (y, is, h.0)
    by_test false is e rest = rest e

pub each-both : {A : Type 0} (P Q : A → Type 0) (xs : List A) → Each P xs → Each Q xs → Each (λ x. P x × Q x) xs
each-both P Q [] a b = tt
each-both P Q (x ∷ xs) a b = ((a.0, b.0), each-both P Q xs a.1 b.1)

-- none of them passes the test
pub none-so : {A : Type 0} (t : A → Bool) (xs : List A) → list_any t xs ≡ false → Each (λ x. t x ≡ false) xs
none-so t [] e = tt
none-so t (x ∷ xs) e = by_test (t x) refl e (none-so t xs) where
  by_test : (b : Bool) → t x ≡ b → (b || list_any t xs) ≡ false → (list_any t xs ≡ false → Each (λ y. t y ≡ false) xs) → Each (λ y. t y ≡ false) (x ∷ xs)
  by_test true is e rest = absurd (true≢false e)
  by_test false is e rest = (is, rest e)

pub so-none : {A : Type 0} (t : A → Bool) (xs : List A) → Each (λ x. t x ≡ false) xs → list_any t xs ≡ false
so-none t [] h = refl
so-none t (x ∷ xs) h = ap (λ b. b || list_any t xs) h.0 ∙ so-none t xs h.1

-- ---- each two
module _ {A : Type 0} (R : A → A → Type 0) where
  paired-by : (t : A → Bool) (x : A) (xs : List A) (b : Bool) → t x ≡ b → Each (R x) xs → InPairs R (filter t xs) → InPairs R (filter t (x ∷ xs))
  paired-by t x xs true e h hs = rw e (each-kept (R x) t xs h, hs)
  paired-by t x xs false e h hs = rw e hs

  pub pairs-kept : (t : A → Bool) (xs : List A) → InPairs R xs → InPairs R (filter t xs)
  pairs-kept t [] h = tt
  pairs-kept t (x ∷ xs) h = paired-by t x xs (t x) refl h.0 (pairs-kept t xs h.1)

  pub pairs-behind : (xs ys : List A) → InPairs R xs → InPairs R ys → Each (λ x. Each (R x) ys) xs → InPairs R (xs ++ ys)
  pairs-behind [] ys a b between = b
  pairs-behind (x ∷ xs) ys a b between = (each-append (R x) xs ys a.0 between.0, pairs-behind xs ys a.1 b between.1)

  last-one : (y : A) (xs : List A) → Each (λ x. R x y) xs → Each (λ x. Each (R x) (y ∷ [])) xs
  last-one y xs h = each-more (λ x. R x y) (λ x. Each (R x) (y ∷ [])) xs (λ x r. (r, tt)) h

  pub pairs-last : (xs : List A) (y : A) → InPairs R xs → Each (λ x. R x y) xs → InPairs R (xs ++ y ∷ [])
  pairs-last xs y a h = pairs-behind xs (y ∷ []) a (tt, tt) (last-one y xs h)

  -- the other way round
  pub pairs-reverse : ((x y : A) → R x y → R y x) → (xs : List A) → InPairs R xs → InPairs R (reverse xs)
  pairs-reverse turn [] h = tt
  pairs-reverse turn (x ∷ xs) h =
      subst (InPairs R) (sym (reverse-append (x ∷ []) xs))
      (pairs-last (reverse xs) x (pairs-reverse turn xs h.1) (each-reverse (λ y. R y x) xs (each-more (R x) (λ y. R y x) xs (turn x) h.0)))

-- each with each
pub each-two : {A : Type 0} (R S : A → A → Type 0) → ((x : A) → S x x) → ((x y : A) → R x y → S x y) → ((x y : A) → R x y → S y x) → (xs : List A) → InPairs R xs → Each (λ x. Each (S x) xs) xs
each-two R S own there back [] h = tt
each-two R S own there back (x ∷ xs) h = (
  (own x, each-more (R x) (S x) xs (there x) h.0),
  each-both (λ y. S y x) (λ y. Each (S y) xs) xs (each-more (R x) (λ y. S y x) xs (back x) h.0) (each-two R S own there back xs h.1),
)
