-- Rows that are put behind others or in the place of one: none is removed.
use Rattle.std.proofs.Common.{◌≡◌, ℕ, zero, suc, Bool, true, not, List, [], ◌∷◌, ◌++◌, slice_set, is_some, refl}
use Rattle.std.specs.List.{list_all}
use Rattle.std.proofs.lemmas.Bool.{and_parts, and_from}
use Rattle.dt_live.specs.declared.live_tree.NodeRow.{NodeRow}
use Rattle.dt_live.specs.declared.live_tree.PropertyRow.{PropertyRow}
use Rattle.dt_live.specs.ByRow.{have_all_rows}

-- ---- what passes a test
module _ {A : Type 0} (test : A → Bool) (x : A) (own : test x ≡ true) where
  all-behind : (xs : List A) → list_all test xs ≡ true → list_all test (xs ++ x ∷ []) ≡ true
  all-behind [] all = and_from (test x) true own refl
  all-behind (y ∷ ys) all =
      let parts = and_parts (test y) (list_all test ys) all in
      and_from (test y) (list_all test (ys ++ x ∷ [])) parts.0 (all-behind ys parts.1)

  all-put : (xs : List A) (i : ℕ) → list_all test xs ≡ true → list_all test (slice_set xs i x) ≡ true
  all-put [] i all = refl
  all-put (y ∷ ys) zero all = and_from (test x) (list_all test ys) own (and_parts (test y) (list_all test ys) all).1
  all-put (y ∷ ys) (suc i) all =
      let parts = and_parts (test y) (list_all test ys) all in
      and_from (test y) (list_all test (slice_set ys i x)) parts.0 (all-put ys i parts.1)

-- ---- rows
module _ {V : Type 0} (nodes : List NodeRow) (properties : List (PropertyRow V)) (all : have_all_rows nodes properties ≡ true) where
  abbrev stands : NodeRow → Bool
  stands r = not r.removed

  abbrev has_value : PropertyRow V → Bool
  has_value r = is_some r.value

  parts : (list_all stands nodes ≡ true) × (list_all has_value properties ≡ true)
  parts = and_parts (list_all stands nodes) (list_all has_value properties) all

  pub node-behind : (r : NodeRow) → not r.removed ≡ true → have_all_rows (nodes ++ r ∷ []) properties ≡ true
  node-behind r own = and_from (list_all stands (nodes ++ r ∷ [])) (list_all has_value properties) (all-behind stands r own nodes parts.0) parts.1

  pub property-behind : (r : PropertyRow V) → is_some r.value ≡ true → have_all_rows nodes (properties ++ r ∷ []) ≡ true
  property-behind r own = and_from (list_all stands nodes) (list_all has_value (properties ++ r ∷ [])) parts.0 (all-behind has_value r own properties parts.1)

  pub property-put : (i : ℕ) (r : PropertyRow V) → is_some r.value ≡ true → have_all_rows nodes (slice_set properties i r) ≡ true
  property-put i r own = and_from (list_all stands nodes) (list_all has_value (slice_set properties i r)) parts.0 (all-put has_value r own properties i parts.1)
