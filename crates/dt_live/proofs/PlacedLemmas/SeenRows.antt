-- The rows of a name, as the meaning sees them.
use Rattle.std.proofs.Common.{◌≡◌, ◌≢◌, ◌⊎◌, inl, inr, ℕ, ◌<◌, Bool, true, false, List, [], ◌∷◌, ◌++◌, length, map, slice_set, Some, None, refl, sym, ap, ap₂, ◌∙◌, subst, true≢false, arith}
use Rattle.std.specs.Prelude.{slice_index_or}
use Rattle.std.proofs.lemmas.List.{get_or-map, length-map}
use Rattle.dt_source.specs.TreeMeaning.Places.{Row, row, place, one_stands, has_place, has_two_places, put_in_place, first_removed}
use Rattle.dt_live.specs.Rows.{Found}
use Rattle.dt_live.proofs.NodeRows.{absent-present, some-is}
use Rattle.dt_live.specs.declared.placed.place.Place.{Place}
use Rattle.dt_live.specs.Placed.Rows.{no_place, place_at}
use Rattle.dt_live.specs.Placed.Tables.{HasKey, IsBehind, IsTable}
use Rattle.dt_live.proofs.PlacedLemmas.PlaceLists.{has-none, has-some, put-none, put-some, removed-none, removed-place, removed-some, stand-none, stand-some, two-none, two-some}

module _ {Y W : Type 0} (rows : List (Place Y)) (found : Found) (table : IsTable rows found) (n : ℕ) (k : List ℕ) (f : Place Y → Row W) (is : W → Bool)
    (to : (j : ℕ) → is (f (place_at rows j)).what ≡ true → HasKey rows j n k) (of : (j : ℕ) → HasKey rows j n k → is (f (place_at rows j)).what ≡ true)
    (gone : (j : ℕ) → (place_at rows j).removed ≡ true → (f (place_at rows j)).stands ≡ false) where
  abbrev passes : ℕ → Bool
  passes j = is (f (place_at rows j)).what

  abbrev d : Row W
  d = f no_place

  by-not : (b : Bool) → (b ≡ true → ⊥) → b ≡ false
  by-not true g = absurd (g refl)
  by-not false g = refl

  -- a row that passes is of the name
  meets : (j : ℕ) → j < length rows → passes j ≡ true → (i : ℕ) × (found n k ≡ Some i) × ((j ≡ i) ⊎ IsBehind rows j i)
  meets j below e =
      let key = to j e in
      let was = table.whole j below in
      (was.0, ap₂ found (sym key.0) (sym key.1) ∙ was.1, was.2)

  no-row : found n k ≡ None → (j : ℕ) → j < length rows → passes j ≡ false
  no-row none j below = by-not (passes j) (λ e. let m = meets j below e in absent-present (found n k) m.0 none m.1)

  module _ (i : ℕ) (has : found n k ≡ Some i) where
    within : i < length rows
    within = (table.right n k i has).0

    its-row : passes i ≡ true
    its-row = of i (table.right n k i has).1

    another : (j : ℕ) → j < length rows → passes j ≡ true → (j ≡ i) ⊎ IsBehind rows j i
    another j below e =
        let m = meets j below e in
        let it : m.0 ≡ i = some-is m.0 i (sym m.1 ∙ has) in
        let P : ℕ → Type 0 = λ x. (j ≡ x) ⊎ IsBehind rows j x in
        subst P it m.2

    single-by : (j : ℕ) → (place_at rows i).again ≡ false → j ≢ i → (j ≡ i) ⊎ IsBehind rows j i → ⊥
    single-by j one other (inl e) = other e
    single-by j one other (inr b) = true≢false (sym b.2 ∙ one)

    single : (place_at rows i).again ≡ false → (j : ℕ) → j < length rows → j ≢ i → passes j ≡ false
    single one j below other = by-not (passes j) (λ e. single-by j one other (another j below e))

    second : (place_at rows i).again ≡ true → (j : ℕ) × (j < i) × (passes j ≡ true)
    second twice =
        let was = table.again i twice in
        let key = (table.right n k i has).1 in
        (was.0, was.1, of was.0 (was.2.0 ∙ key.0, was.2.1 ∙ key.1))

  -- ---- as the meaning sees them
  seen_at : (j : ℕ) → j < length rows → slice_index_or (map f rows) j d ≡ f (place_at rows j)
  seen_at j below = get_or-map f rows j no_place d below

  count : length (map f rows) ≡ length rows
  count = length-map rows f

  what_at : (j : ℕ) → j < length rows → is (slice_index_or (map f rows) j d).what ≡ passes j
  what_at j below = ap (λ r. is r.what) (seen_at j below)

  pub seen-has-none : found n k ≡ None → has_place is (map f rows) ≡ false
  seen-has-none none = has-none is d (map f rows) (λ j below. let under : j < length rows = omega (arith, below, count) in what_at j under ∙ no-row none j under)

  pub seen-has-some : (i : ℕ) → found n k ≡ Some i → has_place is (map f rows) ≡ true
  seen-has-some i has = has-some is d (map f rows) i (omega (arith, within i has, count)) (what_at i (within i has) ∙ its-row i has)

  pub seen-one-none : found n k ≡ None → one_stands is (map f rows) ≡ false
  seen-one-none none = stand-none is d (map f rows) (λ j below e. let under : j < length rows = omega (arith, below, count) in absurd (true≢false (sym e ∙ what_at j under ∙ no-row none j under)))

  pub seen-one-some : (i : ℕ) → found n k ≡ Some i → (f (place_at rows i)).stands ≡ true → one_stands is (map f rows) ≡ true
  seen-one-some i has there =
      stand-some is d (map f rows) i (omega (arith, within i has, count)) (what_at i (within i has) ∙ its-row i has) (ap (λ r. r.stands) (seen_at i (within i has)) ∙ there)

  pub seen-one-gone : (i : ℕ) → found n k ≡ Some i → (f (place_at rows i)).stands ≡ false → one_stands is (map f rows) ≡ false
  seen-one-gone i has away =
      stand-none is d (map f rows) (λ j below e.
      let under : j < length rows = omega (arith, below, count) in
      ap (λ r. r.stands) (seen_at j under) ∙ either j (another i has j under (sym (what_at j under) ∙ e))) where
        either : (j : ℕ) → (j ≡ i) ⊎ IsBehind rows j i → (f (place_at rows j)).stands ≡ false
        either j (inl e) = ap (λ m. (f (place_at rows m)).stands) e ∙ away
        either j (inr b) = gone j b.1

  pub seen-two-none : found n k ≡ None → has_two_places is (map f rows) ≡ false
  seen-two-none none =
      two-none is d (map f rows) (λ i j order below ei ej. let under : j < length rows = omega (arith, below, count) in true≢false (sym ej ∙ what_at j under ∙ no-row none j under))

  pub seen-two-single : (i : ℕ) → found n k ≡ Some i → (place_at rows i).again ≡ false → has_two_places is (map f rows) ≡ false
  seen-two-single i has one =
      two-none is d (map f rows) (λ a b order below ea eb.
      let ub : b < length rows = omega (arith, below, count) in
      let ua : a < length rows = omega (arith, order, ub) in
      let la : a ≡ i = it a ua (sym (what_at a ua) ∙ ea) in
      let lb : b ≡ i = it b ub (sym (what_at b ub) ∙ eb) in
      absurd (omega (arith, order, la, lb))) where
        it-by : (j : ℕ) → (j ≡ i) ⊎ IsBehind rows j i → j ≡ i
        it-by j (inl e) = e
        it-by j (inr b) = absurd (true≢false (sym b.2 ∙ one))

        it : (j : ℕ) → j < length rows → passes j ≡ true → j ≡ i
        it j under e = it-by j (another i has j under e)

  pub seen-two-again : (i : ℕ) → found n k ≡ Some i → (place_at rows i).again ≡ true → has_two_places is (map f rows) ≡ true
  seen-two-again i has twice =
      let s = second i has twice in
      let u : i < length rows = within i has in
      let us : s.0 < length rows = omega (arith, s.1, u) in
      two-some is d (map f rows) s.0 i s.1 (omega (arith, u, count)) (what_at s.0 us ∙ s.2) (what_at i u ∙ its-row i has)

  pub seen-put-none : (x : W) → found n k ≡ None → put_in_place is x (map f rows) ≡ map f rows ++ row x ∷ []
  seen-put-none x none = put-none is d x (map f rows) (λ j below. let under : j < length rows = omega (arith, below, count) in what_at j under ∙ no-row none j under)

  pub seen-put : (x : W) (i : ℕ) → found n k ≡ Some i → (place_at rows i).again ≡ false → put_in_place is x (map f rows) ≡ slice_set (map f rows) i (row x)
  seen-put x i has one =
      put-some is d x (map f rows) i (omega (arith, within i has, count)) (what_at i (within i has) ∙ its-row i has)
      (λ j under. let uj : j < length rows = omega (arith, under, within i has) in what_at j uj ∙ single i has one j uj (λ e. absurd (omega (arith, under, e))))

  pub seen-removed-none : found n k ≡ None → first_removed is (map f rows) ≡ map f rows
  seen-removed-none none = removed-none is d (map f rows) (λ j below. let under : j < length rows = omega (arith, below, count) in what_at j under ∙ no-row none j under)

  pub seen-removed : (i : ℕ) → found n k ≡ Some i → (place_at rows i).again ≡ false → first_removed is (map f rows) ≡ slice_set (map f rows) i (place (f (place_at rows i)).what)
  seen-removed i has one =
      removed-some is d (map f rows) i (omega (arith, within i has, count)) (what_at i (within i has) ∙ its-row i has)
      (λ j under. let uj : j < length rows = omega (arith, under, within i has) in what_at j uj ∙ single i has one j uj (λ e. absurd (omega (arith, under, e))))
      ∙ ap (λ r. slice_set (map f rows) i (place r.what)) (seen_at i (within i has))

  pub seen-removed-again : (i : ℕ) → found n k ≡ Some i → (place_at rows i).again ≡ true → first_removed is (map f rows) ≡ map f rows
  seen-removed-again i has twice =
      removed-place is d (map f rows) (λ j below e before.
      let under : j < length rows = omega (arith, below, count) in
      ap (λ r. r.stands) (seen_at j under) ∙ either j before (another i has j under (sym (what_at j under) ∙ e))) where
        either : (j : ℕ) → ((m : ℕ) → m < j → is (slice_index_or (map f rows) m d).what ≡ false) → (j ≡ i) ⊎ IsBehind rows j i → (f (place_at rows j)).stands ≡ false
        either j before (inl e) =
            let s = second i has twice in
            let us : s.0 < length rows = omega (arith, s.1, within i has) in
            absurd (true≢false (sym s.2 ∙ sym (what_at s.0 us) ∙ before s.0 (omega (arith, s.1, e))))
        either j before (inr b) = gone j b.1
