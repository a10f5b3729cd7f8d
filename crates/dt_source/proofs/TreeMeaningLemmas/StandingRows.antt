-- What stands after each change of rows.
use Rattle.std.proofs.Common.{◌≡◌, Bool, true, false, ◌&&◌, ◌||◌, List, [], ◌∷◌, ◌++◌, map, if◌then◌else◌, cond, refl, sym, ap, ◌∙◌, append-nil, true≢false}
use Rattle.std.specs.List.{filter, list_any}
use Rattle.dt_source.specs.TreeMeaning.Places.{Row, row, place, what_stands, has_place, has_two_places, put_in_place, first_removed, all_removed}
use Rattle.dt_source.proofs.TreeMeaningLemmas.DtcLists.{Each, InPairs, each-more}

-- ---- one row more in front
module _ {X : Type 0} (P : X → Type 0) where
  pub more-each : (r : Row X) (rs : List (Row X)) → (r.stands ≡ true → P r.what) → Each P (what_stands rs) → Each P (what_stands (r ∷ rs))
  more-each r rs h hs = by_test r.stands h where
    by_test : (b : Bool) → (b ≡ true → P r.what) → Each P (map (λ x. x.what) (cond b (r ∷ filter (λ x. x.stands) rs) (filter (λ x. x.stands) rs)))
    by_test true h = (h refl, hs)
    by_test false h = hs

  pub less-each : (r : Row X) (rs : List (Row X)) → Each P (what_stands (r ∷ rs)) → (r.stands ≡ true → P r.what) × Each P (what_stands rs)
  less-each r rs hs = by_test r.stands hs where
    by_test : (b : Bool) → Each P (map (λ x. x.what) (cond b (r ∷ filter (λ x. x.stands) rs) (filter (λ x. x.stands) rs))) → (b ≡ true → P r.what) × Each P (what_stands rs)
    by_test true hs = ((λ _. hs.0), hs.1)
    by_test false hs = ((λ e. absurd (true≢false (sym e))), hs)

module _ {X : Type 0} (R : X → X → Type 0) where
  pub more-pairs : (r : Row X) (rs : List (Row X)) → (r.stands ≡ true → Each (R r.what) (what_stands rs)) → InPairs R (what_stands rs) → InPairs R (what_stands (r ∷ rs))
  more-pairs r rs h hs = by_test r.stands h where
    by_test : (b : Bool) → (b ≡ true → Each (R r.what) (what_stands rs)) → InPairs R (map (λ x. x.what) (cond b (r ∷ filter (λ x. x.stands) rs) (filter (λ x. x.stands) rs)))
    by_test true h = (h refl, hs)
    by_test false h = hs

  pub less-pairs : (r : Row X) (rs : List (Row X)) → InPairs R (what_stands (r ∷ rs)) → (r.stands ≡ true → Each (R r.what) (what_stands rs)) × InPairs R (what_stands rs)
  less-pairs r rs hs = by_test r.stands hs where
    by_test : (b : Bool) → InPairs R (map (λ x. x.what) (cond b (r ∷ filter (λ x. x.stands) rs) (filter (λ x. x.stands) rs))) → (b ≡ true → Each (R r.what) (what_stands rs)) × InPairs R (what_stands rs)
    by_test true hs = ((λ _. hs.0), hs.1)
    by_test false hs = ((λ e. absurd (true≢false (sym e))), hs)

one-any : {X : Type 0} (f : X → Bool) (r : Row X) (rs : List (Row X)) → list_any f (what_stands (r ∷ rs)) ≡ ((r.stands && f r.what) || list_any f (what_stands rs))
one-any f r rs = by_test r.stands where
  by_test : (b : Bool) → list_any f (map (λ x. x.what) (cond b (r ∷ filter (λ x. x.stands) rs) (filter (λ x. x.stands) rs))) ≡ ((b && f r.what) || list_any f (what_stands rs))
  by_test true = refl
  by_test false = refl

-- ---- one goes last
pub stands-last : {X : Type 0} (rs : List (Row X)) (r : Row X) → what_stands (rs ++ r ∷ []) ≡ what_stands rs ++ what_stands (r ∷ [])
stands-last [] r = refl
stands-last (x ∷ xs) r = by_test x.stands (stands-last xs r) where
  by_test : (b : Bool) → what_stands (xs ++ r ∷ []) ≡ what_stands xs ++ what_stands (r ∷ [])
      → map (λ y. y.what) (cond b (x ∷ filter (λ y. y.stands) (xs ++ r ∷ [])) (filter (λ y. y.stands) (xs ++ r ∷ [])))
      ≡ map (λ y. y.what) (cond b (x ∷ filter (λ y. y.stands) xs) (filter (λ y. y.stands) xs)) ++ what_stands (r ∷ [])
  by_test true e = ap (λ ys. x.what ∷ ys) e
  by_test false e = e

pub place-last : {X : Type 0} (rs : List (Row X)) (x : X) → what_stands (rs ++ place x ∷ []) ≡ what_stands rs
place-last rs x = stands-last rs (place x) ∙ append-nil (what_stands rs)

-- ---- one is put in its place
module _ {X : Type 0} (is : X → Bool) (x : X) where
  pub put-each : (P : X → Type 0) (rs : List (Row X)) → P x → Each P (what_stands rs) → Each P (what_stands (put_in_place is x rs))
  put-each P [] h hs = (h, tt)
  put-each P (r ∷ rs) h hs = by_test (is r.what) (put-each P rs h (less-each P r rs hs).1) where
    by_test : (b : Bool) → Each P (what_stands (put_in_place is x rs)) → Each P (what_stands (if b then row x ∷ rs else r ∷ put_in_place is x rs))
    by_test true rest = (h, (less-each P r rs hs).1)
    by_test false rest = more-each P r (put_in_place is x rs) (less-each P r rs hs).0 rest

  once-more : (a s c : Bool) → (a || c) ≡ (a || ((s && a) || c))
  once-more true s c = refl
  once-more false true c = refl
  once-more false false c = refl

  turned : (s a c : Bool) → (s || (a || c)) ≡ (a || (s || c))
  turned true true c = refl
  turned true false c = refl
  turned false a c = refl

  pub put-any : (f : X → Bool) → ((y : X) → is y ≡ true → f y ≡ f x) → (rs : List (Row X)) → list_any f (what_stands (put_in_place is x rs)) ≡ (f x || list_any f (what_stands rs))
  put-any f same [] = refl
  put-any f same (r ∷ rs) = by_test (is r.what) refl (put-any f same rs) ∙ sym (ap (λ b. f x || b) (one-any f r rs)) where
    by_test : (b : Bool) → is r.what ≡ b → list_any f (what_stands (put_in_place is x rs)) ≡ (f x || list_any f (what_stands rs))
        → list_any f (what_stands (if b then row x ∷ rs else r ∷ put_in_place is x rs)) ≡ (f x || ((r.stands && f r.what) || list_any f (what_stands rs)))
    by_test true e rest =
        once-more (f x) r.stands (list_any f (what_stands rs)) ∙ ap (λ b. f x || ((r.stands && b) || list_any f (what_stands rs))) (sym (same r.what e))
    by_test false e rest =
        one-any f r (put_in_place is x rs) ∙ ap (λ b. (r.stands && f r.what) || b) rest ∙ turned (r.stands && f r.what) (f x) (list_any f (what_stands rs))

  pub no-place : (rs : List (Row X)) → has_place is rs ≡ false → Each (λ y. is y ≡ false) (what_stands rs)
  no-place [] e = tt
  no-place (r ∷ rs) e = by_test (is r.what) refl e (no-place rs) where
    by_test : (b : Bool) → is r.what ≡ b → (b || has_place is rs) ≡ false → (has_place is rs ≡ false → Each (λ y. is y ≡ false) (what_stands rs)) → Each (λ y. is y ≡ false) (what_stands (r ∷ rs))
    by_test true h e rest = absurd (true≢false e)
    by_test false h e rest = more-each (λ y. is y ≡ false) r rs (λ _. h) (rest e)

  pub put-pairs : (R : X → X → Type 0) → ((y : X) → is y ≡ false → R y x) → ((y : X) → is y ≡ false → R x y) → (rs : List (Row X)) → has_two_places is rs ≡ false
      → InPairs R (what_stands rs) → InPairs R (what_stands (put_in_place is x rs))
  put-pairs R before behind [] e hs = (tt, tt)
  put-pairs R before behind (r ∷ rs) e hs = by_test (is r.what) refl e (put-pairs R before behind rs) where
    parts : (r.stands ≡ true → Each (R r.what) (what_stands rs)) × InPairs R (what_stands rs)
    parts = less-pairs R r rs hs

    by_test : (b : Bool) → is r.what ≡ b → (if b then has_place is rs else has_two_places is rs) ≡ false
        → (has_two_places is rs ≡ false → InPairs R (what_stands rs) → InPairs R (what_stands (put_in_place is x rs)))
        → InPairs R (what_stands (if b then row x ∷ rs else r ∷ put_in_place is x rs))
    by_test true h e rest = (each-more (λ y. is y ≡ false) (R x) (what_stands rs) behind (no-place rs e), parts.1)
    by_test false h e rest =
        more-pairs R r (put_in_place is x rs) (λ s. put-each (R r.what) rs (before r.what h) (parts.0 s)) (rest e parts.1)

  -- of rows, whether they stand or not
  pub put-rows : (Q : Row X → Type 0) (rs : List (Row X)) → Q (row x) → Each Q rs → Each Q (put_in_place is x rs)
  put-rows Q [] h hs = (h, tt)
  put-rows Q (r ∷ rs) h hs = by_test (is r.what) (put-rows Q rs h hs.1) where
    by_test : (b : Bool) → Each Q (put_in_place is x rs) → Each Q (if b then row x ∷ rs else r ∷ put_in_place is x rs)
    by_test true rest = (h, hs.1)
    by_test false rest = (hs.0, rest)

-- ---- some are removed
module _ {X : Type 0} (is : X → Bool) where
  pub first-each : (P : X → Type 0) (rs : List (Row X)) → Each P (what_stands rs) → Each P (what_stands (first_removed is rs))
  first-each P [] hs = tt
  first-each P (r ∷ rs) hs = by_test (is r.what) (first-each P rs (less-each P r rs hs).1) where
    by_test : (b : Bool) → Each P (what_stands (first_removed is rs)) → Each P (what_stands (if b then place r.what ∷ rs else r ∷ first_removed is rs))
    by_test true rest = (less-each P r rs hs).1
    by_test false rest = more-each P r (first_removed is rs) (less-each P r rs hs).0 rest

  pub first-pairs : (R : X → X → Type 0) (rs : List (Row X)) → InPairs R (what_stands rs) → InPairs R (what_stands (first_removed is rs))
  first-pairs R [] hs = tt
  first-pairs R (r ∷ rs) hs = by_test (is r.what) (first-pairs R rs (less-pairs R r rs hs).1) where
    by_test : (b : Bool) → InPairs R (what_stands (first_removed is rs)) → InPairs R (what_stands (if b then place r.what ∷ rs else r ∷ first_removed is rs))
    by_test true rest = (less-pairs R r rs hs).1
    by_test false rest = more-pairs R r (first_removed is rs) (λ s. first-each (R r.what) rs ((less-pairs R r rs hs).0 s)) rest

  abbrev one-removed : Row X → Bool → Row X
  one-removed r b = if b then place r.what else r

  -- what stands then stood before, and is of another kind
  pub removed-each : (P : X → Type 0) (rs : List (Row X)) → Each P (what_stands rs) → Each (λ y. P y × (is y ≡ false)) (what_stands (all_removed is rs))
  removed-each P [] hs = tt
  removed-each P (r ∷ rs) hs = by_test (is r.what) refl (removed-each P rs (less-each P r rs hs).1) where
    by_test : (b : Bool) → is r.what ≡ b → Each (λ y. P y × (is y ≡ false)) (what_stands (all_removed is rs)) → Each (λ y. P y × (is y ≡ false)) (what_stands (one-removed r b ∷ all_removed is rs))
    by_test true e rest = rest
    by_test false e rest = more-each (λ y. P y × (is y ≡ false)) r (all_removed is rs) (λ s. ((less-each P r rs hs).0 s, e)) rest

  pub removed-pairs : (R : X → X → Type 0) (rs : List (Row X)) → InPairs R (what_stands rs) → InPairs R (what_stands (all_removed is rs))
  removed-pairs R [] hs = tt
  removed-pairs R (r ∷ rs) hs = by_test (is r.what) (removed-pairs R rs (less-pairs R r rs hs).1) where
    by_test : (b : Bool) → InPairs R (what_stands (all_removed is rs)) → InPairs R (what_stands (one-removed r b ∷ all_removed is rs))
    by_test true rest = rest
    by_test false rest =
        more-pairs R r (all_removed is rs)
        (λ s. each-more (λ y. R r.what y × (is y ≡ false)) (R r.what) (what_stands (all_removed is rs)) (λ y h. h.0) (removed-each (R r.what) rs ((less-pairs R r rs hs).0 s))) rest

  -- one of another kind stands still
  pub removed-stays : (f : X → Bool) → ((y : X) → f y ≡ true → is y ≡ false) → (rs : List (Row X)) → list_any f (what_stands rs) ≡ true → list_any f (what_stands (all_removed is rs)) ≡ true
  removed-stays f other [] e = e
  removed-stays f other (r ∷ rs) e = by_kind (is r.what) refl (removed-stays f other rs) where
    here : (b : Bool) → f r.what ≡ b → is r.what ≡ true → ((r.stands && b) || list_any f (what_stands rs)) ≡ true → list_any f (what_stands rs) ≡ true
    here true h k e = absurd (true≢false (sym k ∙ other r.what h))
    here false h k e = by_stands r.stands e where
      by_stands : (s : Bool) → ((s && false) || list_any f (what_stands rs)) ≡ true → list_any f (what_stands rs) ≡ true
      by_stands true e = e
      by_stands false e = e

    with-it : (a : Bool) → (a || list_any f (what_stands rs)) ≡ true → (list_any f (what_stands rs) ≡ true → list_any f (what_stands (all_removed is rs)) ≡ true)
        → (a || list_any f (what_stands (all_removed is rs))) ≡ true
    with-it true e rest = refl
    with-it false e rest = rest e

    by_kind : (b : Bool) → is r.what ≡ b → (list_any f (what_stands rs) ≡ true → list_any f (what_stands (all_removed is rs)) ≡ true)
        → list_any f (what_stands (one-removed r b ∷ all_removed is rs)) ≡ true
    by_kind true k rest = rest (here (f r.what) refl k (sym (one-any f r rs) ∙ e))
    by_kind false k rest = one-any f r (all_removed is rs) ∙ with-it (r.stands && f r.what) (sym (one-any f r rs) ∙ e) rest

  -- of rows, whether they stand or not
  pub removed-rows : (Q : Row X → Type 0) → ((r : Row X) → is r.what ≡ true → Q r → Q (place r.what)) → (rs : List (Row X)) → Each Q rs → Each Q (all_removed is rs)
  removed-rows Q goes [] hs = tt
  removed-rows Q goes (r ∷ rs) hs = (by_kind (is r.what) refl, removed-rows Q goes rs hs.1) where
    by_kind : (b : Bool) → is r.what ≡ b → Q (one-removed r b)
    by_kind true e = goes r e hs.0
    by_kind false e = hs.0
