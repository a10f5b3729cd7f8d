-- What is true of the place of a name among named things, and of a name without one.
use Rattle.std.proofs.Common.{◌≡◌, ℕ, ◌+◌, Bool, true, false, List, [], ◌∷◌, Option, Some, None, refl, subst}
use Rattle.std.specs.Str.{bytes_eq}
use Rattle.dt_tree.specs.Private.Edits.{place_of}

-- names of things, in order
pub record AreNamesOf {X : Type 0} (names : List X → List (List ℕ)) (name : X → List ℕ) : Type 0 where
  pub nil : names [] ≡ []
  pub cons : (x : X) (xs : List X) → names (x ∷ xs) ≡ name x ∷ names xs

module _ {X : Type 0} (names : List X → List (List ℕ)) (name : X → List ℕ) (are : AreNamesOf names name) (k : List ℕ) where
  module _ (P : List X → ℕ → Type 0) (here : (x : X) (xs : List X) → bytes_eq (name x) k ≡ true → P (x ∷ xs) 0) (later : (x : X) (xs : List X) (j : ℕ) → bytes_eq (name x) k ≡ false → P xs j → P (x ∷ xs) (j + 1)) where
    at_head : (x : X) (xs : List X) (at : ℕ) (t : Bool) → bytes_eq (name x) k ≡ t → (o : Option ℕ) → place_of (names xs) k ≡ o → place_of (name x ∷ names xs) k ≡ Some at
        → ((j : ℕ) → place_of (names xs) k ≡ Some j → P xs j) → P (x ∷ xs) at
    at_head x xs at true e o q is ih = let h : Some 0 ≡ Some at = rw e at is in let z : 0 ≡ at = cc h in subst (P (x ∷ xs)) z (here x xs e)
    at_head x xs at false e None q is ih = absurd (let h : ◌≡◌ {A = Option ℕ} None (Some at) = rw (e, q) at is in cc h)
    at_head x xs at false e (Some j) q is ih = let h : Some (j + 1) ≡ Some at = rw (e, q) at is in let z : j + 1 ≡ at = cc h in subst (P (x ∷ xs)) z (later x xs j e (ih j q))

    pub at_place : (xs : List X) (at : ℕ) → place_of (names xs) k ≡ Some at → P xs at
    at_place [] at is = absurd (let h : ◌≡◌ {A = Option ℕ} None (Some at) = rw are.nil at is in cc h)
    at_place (x ∷ xs) at is = at_head x xs at _ refl _ refl (rw (are.cons x xs) at is) (at_place xs)

  module _ (P : List X → Type 0) (none : P []) (later : (x : X) (xs : List X) → bytes_eq (name x) k ≡ false → P xs → P (x ∷ xs)) where
    none_head : (x : X) (xs : List X) (t : Bool) → bytes_eq (name x) k ≡ t → (o : Option ℕ) → place_of (names xs) k ≡ o → place_of (name x ∷ names xs) k ≡ None → (place_of (names xs) k ≡ None → P xs) → P (x ∷ xs)
    none_head x xs true e o q is ih = absurd (let h : Some 0 ≡ None = rw e at is in cc h)
    none_head x xs false e None q is ih = later x xs e (ih q)
    none_head x xs false e (Some j) q is ih = absurd (let h : Some (j + 1) ≡ None = rw (e, q) at is in cc h)

    pub no_place : (xs : List X) → place_of (names xs) k ≡ None → P xs
    no_place [] is = none
    no_place (x ∷ xs) is = none_head x xs _ refl _ refl (rw (are.cons x xs) at is) (no_place xs)
