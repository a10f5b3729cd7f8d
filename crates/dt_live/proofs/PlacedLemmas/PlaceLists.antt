-- Rows that stand or are places, told by their numbers.
use Rattle.std.proofs.Common.{◌≡◌, ℕ, zero, suc, ◌<◌, Bool, true, false, ◌||◌, if◌then◌else◌, List, [], ◌∷◌, ◌++◌, length, map, slice_set, refl, sym, ap, ◌∙◌, true≢false, arith}
use Rattle.std.specs.Prelude.{slice_index_or}
use Rattle.std.specs.List.{filter, list_any}
use Rattle.dt_source.specs.TreeMeaning.Places.{Row, row, place, one_stands, has_place, has_two_places, put_in_place, first_removed}

or-right : (a b : Bool) → b ≡ true → (a || b) ≡ true
or-right true b e = refl
or-right false b e = e

module _ {X : Type 0} (is : X → Bool) (d : Row X) where
  abbrev pub at : List (Row X) → ℕ → Row X
  at rs j = slice_index_or rs j d

  -- ---- whether there is a place
  pub has-none : (rs : List (Row X)) → ((j : ℕ) → j < length rs → is (at rs j).what ≡ false) → has_place is rs ≡ false
  has-none [] none = refl
  has-none (r ∷ rs) none = ap (λ b. b || has_place is rs) (none 0 (omega arith)) ∙ has-none rs (λ j below. none (suc j) (omega (arith, below)))

  pub has-some : (rs : List (Row X)) (i : ℕ) → i < length rs → is (at rs i).what ≡ true → has_place is rs ≡ true
  has-some [] i below e = absurd (omega (arith, below))
  has-some (r ∷ rs) zero below e = ap (λ b. b || has_place is rs) e
  has-some (r ∷ rs) (suc i) below e = or-right (is r.what) (has_place is rs) (has-some rs i (omega (arith, below)) e)

  -- ---- whether there are two
  by-not : (b : Bool) → (b ≡ true → ⊥) → b ≡ false
  by-not true f = absurd (f refl)
  by-not false f = refl

  pub two-none : (rs : List (Row X)) → ((i j : ℕ) → i < j → j < length rs → is (at rs i).what ≡ true → is (at rs j).what ≡ true → ⊥) → has_two_places is rs ≡ false
  two-none [] once = refl
  two-none (r ∷ rs) once = by_test (two-none rs (λ i j order below ei ej. once (suc i) (suc j) (omega (arith, order)) (omega (arith, below)) ei ej)) (is r.what) refl where
    by_test : has_two_places is rs ≡ false → (b : Bool) → is r.what ≡ b → (if b then has_place is rs else has_two_places is rs) ≡ false
    by_test rest true e = has-none rs (λ j below. by-not (is (at rs j).what) (λ ej. once 0 (suc j) (omega arith) (omega (arith, below)) e ej))
    by_test rest false e = rest

  pub two-some : (rs : List (Row X)) (i j : ℕ) → i < j → j < length rs → is (at rs i).what ≡ true → is (at rs j).what ≡ true → has_two_places is rs ≡ true
  two-some [] i j order below ei ej = absurd (omega (arith, below))
  two-some (r ∷ rs) i zero order below ei ej = absurd (omega (arith, order))
  two-some (r ∷ rs) zero (suc j) order below ei ej =
      ap (λ b. if b then has_place is rs else has_two_places is rs) ei ∙ has-some rs j (omega (arith, below)) ej
  two-some (r ∷ rs) (suc i) (suc j) order below ei ej = by_test (two-some rs i j (omega (arith, order)) (omega (arith, below)) ei ej) (is r.what) where
    by_test : has_two_places is rs ≡ true → (b : Bool) → (if b then has_place is rs else has_two_places is rs) ≡ true
    by_test rest true = has-some rs j (omega (arith, below)) ej
    by_test rest false = rest

  -- ---- whether one stands
  pub stand-none : (rs : List (Row X)) → ((j : ℕ) → j < length rs → is (at rs j).what ≡ true → (at rs j).stands ≡ false) → one_stands is rs ≡ false
  stand-none [] none = refl
  stand-none (r ∷ rs) none = by_test (stand-none rs (λ j below e. none (suc j) (omega (arith, below)) e)) r.stands (is r.what) refl refl where
    by_test : one_stands is rs ≡ false → (s b : Bool) → r.stands ≡ s → is r.what ≡ b
        → list_any is (map (λ x. x.what) (if s then r ∷ filter (λ x. x.stands) rs else filter (λ x. x.stands) rs)) ≡ false
    by_test rest true true es eb = absurd (true≢false (sym es ∙ none 0 (omega arith) eb))
    by_test rest true false es eb = ap (λ b. b || one_stands is rs) eb ∙ rest
    by_test rest false b es eb = rest

  pub stand-some : (rs : List (Row X)) (i : ℕ) → i < length rs → is (at rs i).what ≡ true → (at rs i).stands ≡ true → one_stands is rs ≡ true
  stand-some [] i below e there = absurd (omega (arith, below))
  stand-some (r ∷ rs) zero below e there =
      ap (λ s. list_any is (map (λ x. x.what) (if s then r ∷ filter (λ x. x.stands) rs else filter (λ x. x.stands) rs))) there
      ∙ ap (λ b. b || one_stands is rs) e
  stand-some (r ∷ rs) (suc i) below e there = by_test (stand-some rs i (omega (arith, below)) e there) r.stands where
    by_test : one_stands is rs ≡ true → (s : Bool) → list_any is (map (λ x. x.what) (if s then r ∷ filter (λ x. x.stands) rs else filter (λ x. x.stands) rs)) ≡ true
    by_test rest true = or-right (is r.what) (one_stands is rs) rest
    by_test rest false = rest

  -- ---- changes
  pub put-none : (x : X) (rs : List (Row X)) → ((j : ℕ) → j < length rs → is (at rs j).what ≡ false) → put_in_place is x rs ≡ rs ++ row x ∷ []
  put-none x [] none = refl
  put-none x (r ∷ rs) none =
      ap (λ b. if b then row x ∷ rs else r ∷ put_in_place is x rs) (none 0 (omega arith))
      ∙ ap (λ ys. r ∷ ys) (put-none x rs (λ j below. none (suc j) (omega (arith, below))))

  pub put-some : (x : X) (rs : List (Row X)) (i : ℕ) → i < length rs → is (at rs i).what ≡ true → ((j : ℕ) → j < i → is (at rs j).what ≡ false)
      → put_in_place is x rs ≡ slice_set rs i (row x)
  put-some x [] i below e before = absurd (omega (arith, below))
  put-some x (r ∷ rs) zero below e before = ap (λ b. if b then row x ∷ rs else r ∷ put_in_place is x rs) e
  put-some x (r ∷ rs) (suc i) below e before =
      ap (λ b. if b then row x ∷ rs else r ∷ put_in_place is x rs) (before 0 (omega arith))
      ∙ ap (λ ys. r ∷ ys) (put-some x rs i (omega (arith, below)) e (λ j under. before (suc j) (omega (arith, under))))

  pub removed-none : (rs : List (Row X)) → ((j : ℕ) → j < length rs → is (at rs j).what ≡ false) → first_removed is rs ≡ rs
  removed-none [] none = refl
  removed-none (r ∷ rs) none =
      ap (λ b. if b then place r.what ∷ rs else r ∷ first_removed is rs) (none 0 (omega arith))
      ∙ ap (λ ys. r ∷ ys) (removed-none rs (λ j below. none (suc j) (omega (arith, below))))

  pub removed-some : (rs : List (Row X)) (i : ℕ) → i < length rs → is (at rs i).what ≡ true → ((j : ℕ) → j < i → is (at rs j).what ≡ false)
      → first_removed is rs ≡ slice_set rs i (place (at rs i).what)
  removed-some [] i below e before = absurd (omega (arith, below))
  removed-some (r ∷ rs) zero below e before = ap (λ b. if b then place r.what ∷ rs else r ∷ first_removed is rs) e
  removed-some (r ∷ rs) (suc i) below e before =
      ap (λ b. if b then place r.what ∷ rs else r ∷ first_removed is rs) (before 0 (omega arith))
      ∙ ap (λ ys. r ∷ ys) (removed-some rs i (omega (arith, below)) e (λ j under. before (suc j) (omega (arith, under))))

  -- the first of a kind, where it is a place
  pub removed-place : (rs : List (Row X)) → ((j : ℕ) → j < length rs → is (at rs j).what ≡ true → ((i : ℕ) → i < j → is (at rs i).what ≡ false) → (at rs j).stands ≡ false) → first_removed is rs ≡ rs
  removed-place [] first = refl
  removed-place (r ∷ rs) first =
      by_test (λ e. removed-place rs (λ j below ej before. first (suc j) (omega (arith, below)) ej (λ i. earlier i j e before))) (is r.what) r.stands refl refl where
        earlier : (i j : ℕ) → is r.what ≡ false → ((k : ℕ) → k < j → is (at rs k).what ≡ false) → i < suc j → is (at (r ∷ rs) i).what ≡ false
        earlier zero j e before under = e
        earlier (suc i) j e before under = before i (omega (arith, under))

        by_test : (is r.what ≡ false → first_removed is rs ≡ rs) → (b s : Bool) → is r.what ≡ b → r.stands ≡ s → (if b then place r.what ∷ rs else r ∷ first_removed is rs) ≡ r ∷ rs
        by_test rest true true e es = absurd (true≢false (sym es ∙ first 0 (omega arith) e (λ i under. absurd (omega (arith, under)))))
        by_test rest true false e es = ap (λ s. (record { what = r.what; stands = s }) ∷ rs) (sym es)
        by_test rest false s e es = ap (λ ys. r ∷ ys) (rest e)
