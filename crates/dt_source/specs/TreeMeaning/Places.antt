-- Rows that keep their place (dtc 1.6.1, tried by hand): a row stands, or it was removed and is a place, which it has again once it is
-- made again.
use Rattle.std.specs.Prelude.{Bool, true, false, List, [], ◌∷◌, map, if◌then◌else◌}
use Rattle.std.specs.List.{filter, list_any}

pub record Row (X : Type 0) : Type 0 where
  pub what : X
  pub stands : Bool

abbrev pub row : {X : Type 0} → X → Row X
row x = record { what = x; stands = true }

abbrev pub place : {X : Type 0} → X → Row X
place x = record { what = x; stands = false }

-- ---- questions
abbrev pub what_stands : {X : Type 0} → List (Row X) → List X
what_stands rows = map (λ r. r.what) (filter (λ r. r.stands) rows)

-- one of a kind stands
abbrev pub one_stands : {X : Type 0} → (X → Bool) → List (Row X) → Bool
one_stands is rows = list_any is (what_stands rows)

-- one of a kind stands or was removed
abbrev pub has_place : {X : Type 0} → (X → Bool) → List (Row X) → Bool
has_place is rows = list_any (λ r. is r.what) rows

abbrev pub has_two_places : {X : Type 0} → (X → Bool) → List (Row X) → Bool
has_two_places is [] = false
has_two_places is (r ∷ rs) = if is r.what then has_place is rs else has_two_places is rs

-- ---- changes
-- the first of a kind is this, and stands; where there is none, it goes last
abbrev pub put_in_place : {X : Type 0} → (X → Bool) → X → List (Row X) → List (Row X)
put_in_place is x [] = row x ∷ []
put_in_place is x (r ∷ rs) = if is r.what then row x ∷ rs else r ∷ put_in_place is x rs

-- the first of a kind is removed
abbrev pub first_removed : {X : Type 0} → (X → Bool) → List (Row X) → List (Row X)
first_removed is [] = []
first_removed is (r ∷ rs) = if is r.what then place r.what ∷ rs else r ∷ first_removed is rs

-- all of a kind are removed
abbrev pub all_removed : {X : Type 0} → (X → Bool) → List (Row X) → List (Row X)
all_removed is rows = map (λ r. if is r.what then place r.what else r) rows
