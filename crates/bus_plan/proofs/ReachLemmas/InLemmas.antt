-- What stands in a list of devices.
use Rattle.std.proofs.Common.{◌≡◌, ◌⊎◌, inl, inr, ⊎_elim, ℕ, zero, suc, ◌+◌, ◌<◌, ◌≤◌, Bool, true, false, List, [], ◌∷◌, ◌++◌, refl, sym, ap, ◌∙◌, subst, arith}
use Rattle.std.specs.Prelude.{All, ◌==◌, ◌||◌, filter}
use Rattle.std.specs.List.{list_all, range_with_len}
use Rattle.std.proofs.lemmas.Bool.{eqb-true, eq-eqb, cases_eq}
use Rattle.std.proofs.lemmas.List.Elements.{All-nil, All-cons, All-head, All-tail}
use Rattle.std.proofs.lemmas.List.Folds.{list_any-append}
use Rattle.dt_tree.proofs.Places.{both}
use Rattle.bus_plan.specs.Reach.Reached.{is_in}

pub some_or : (a b : Bool) → (a || b) ≡ true → (a ≡ true) ⊎ (b ≡ true)
some_or true b e = inl refl
some_or false b e = inr e

pub or_left : (a b : Bool) → a ≡ true → (a || b) ≡ true
or_left true b e = refl
or_left false b e = absurd (let bad : false ≡ true = e in cc bad)

pub or_right : (a b : Bool) → b ≡ true → (a || b) ≡ true
or_right true b e = refl
or_right false b e = e

pub in_all : (P : ℕ → Type 0) (xs : List ℕ) → All P xs → (x : ℕ) → is_in xs x ≡ true → P x
in_all P [] h x e = absurd (let bad : false ≡ true = e in cc bad)
in_all P (y ∷ xs) h x e =
    ⊎_elim (λ same. subst P (eqb-true y x same) (All-head P y xs h)) (λ later. in_all P xs (All-tail P y xs h) x later) (some_or (y == x) (is_in xs x) e)

pub all_in : (P : ℕ → Type 0) (xs : List ℕ) → ((x : ℕ) → is_in xs x ≡ true → P x) → All P xs
all_in P [] h = All-nil P
all_in P (y ∷ xs) h = All-cons P y xs (h y (or_left (y == y) (is_in xs y) (eq-eqb y y refl))) (all_in P xs (λ x e. h x (or_right (y == x) (is_in xs x) e)))

pub in_append : (xs ys : List ℕ) (d : ℕ) → is_in (xs ++ ys) d ≡ (is_in xs d || is_in ys d)
in_append xs ys d = list_any-append (λ e. e == d) xs ys

pub in_here : (xs : List ℕ) (d : ℕ) → is_in (xs ++ d ∷ []) d ≡ true
in_here xs d = in_append xs (d ∷ []) d ∙ or_right (is_in xs d) (is_in (d ∷ []) d) (or_left (d == d) false (eq-eqb d d refl))

pub in_filter : (p : ℕ → Bool) (ds : List ℕ) (d : ℕ) → is_in (filter p ds) d ≡ true → p d ≡ true
in_filter p [] d e = absurd (let bad : false ≡ true = e in cc bad)
in_filter p (y ∷ ds) d e = by (p y) refl (in_filter p ds d) where
  by : (t : Bool) → p y ≡ t → (is_in (filter p ds) d ≡ true → p d ≡ true) → p d ≡ true
  by true is rest =
      ⊎_elim (λ same. ap p (sym (eqb-true y d same)) ∙ is) rest
      (some_or (y == d) (is_in (filter p ds) d) (let g : is_in (y ∷ filter p ds) d ≡ true = rw is at e in g))
  by false is rest = rest (rw is at e)

pub filter_in : (p : ℕ → Bool) (ds : List ℕ) (d : ℕ) → p d ≡ true → is_in ds d ≡ true → is_in (filter p ds) d ≡ true
filter_in p [] d on e = absurd (let bad : false ≡ true = e in cc bad)
filter_in p (y ∷ ds) d on e = by (p y) refl (⊎_elim (λ same. inl same) (λ later. inr (filter_in p ds d on later)) (some_or (y == d) (is_in ds d) e)) where
  by : (t : Bool) → p y ≡ t → ((y == d) ≡ true) ⊎ (is_in (filter p ds) d ≡ true) → is_in (filter p (y ∷ ds)) d ≡ true
  by true is (inl same) = rw is (or_left (y == d) (is_in (filter p ds) d) same)
  by true is (inr later) = rw is (or_right (y == d) (is_in (filter p ds) d) later)
  by false is (inl same) = absurd (let on_y : p y ≡ true = ap p (eqb-true y d same) ∙ on in let bad : false ≡ true = sym is ∙ on_y in cc bad)
  by false is (inr later) = rw is later

pub in_range : (a n d : ℕ) → a ≤ d → d < a + n → is_in (range_with_len a n) d ≡ true
in_range a zero d low high = absurd (omega arith)
in_range a (suc n) d low high = by (cases_eq a d) (λ more. in_range (a + 1) n d more (omega arith)) where
  by : (a ≡ d) ⊎ (a ≡ d → ⊥) → (a + 1 ≤ d → is_in (range_with_len (a + 1) n) d ≡ true) → is_in (range_with_len a (suc n)) d ≡ true
  by (inl same) later = or_left (a == d) (is_in (range_with_len (a + 1) n) d) (eq-eqb a d same)
  by (inr other) later = or_right (a == d) (is_in (range_with_len (a + 1) n) d) (later (omega arith))

pub range_low : (n a m : ℕ) → a + n ≤ m → All (λ d. d < m) (range_with_len a n)
range_low zero a m most = All-nil (λ d. d < m)
range_low (suc n) a m most = All-cons (λ d. d < m) a (range_with_len (a + 1) n) (omega arith) (range_low n (a + 1) m (omega arith))

pub list_all_in : (p : ℕ → Bool) (xs : List ℕ) → list_all p xs ≡ true → (d : ℕ) → is_in xs d ≡ true → p d ≡ true
list_all_in p [] all d e = absurd (let bad : false ≡ true = e in cc bad)
list_all_in p (y ∷ xs) all d e =
    ⊎_elim (λ same. ap p (sym (eqb-true y d same)) ∙ (both (p y) (list_all p xs) all).0) (λ later. list_all_in p xs (both (p y) (list_all p xs) all).1 d later)
    (some_or (y == d) (is_in xs d) e)
