-- The tables, and the tree, after one edit of the table of nodes.
use Rattle.std.proofs.Common.{◌≡◌, ◌≢◌, inl, inr, ℕ, zero, suc, ◌<◌, ◌≤◌, Bool, true, false, not, ◌&&◌, ◌||◌, nat_le, List, [], ◌∷◌, ◌++◌, length, map, slice_set, Some, if◌then◌else◌, refl, sym, ap, ap₂, ◌∙◌, arith}
use Rattle.std.specs.Prelude.{slice_index_or}
use Rattle.std.proofs.lemmas.Bool.{cases_eq, cases_lt}
use Rattle.std.proofs.lemmas.List.{length_push, length-set}
use Rattle.dt_source.specs.TreeMeaning.Paths.{Path}
use Rattle.dt_source.specs.TreeMeaning.Places.{Row, row, place, all_removed, has_place, has_two_places, one_stands, put_in_place}
use Rattle.dt_live.specs.Index.{is_key}
use Rattle.dt_live.specs.Rows.{Found}
use Rattle.dt_live.proofs.Keys.{key-cases}
use Rattle.dt_live.specs.declared.placed.place.Place.{Place}
use Rattle.dt_live.specs.Placed.Rows.{holds, is_made, is_there, made_at, path_of, place_at}
use Rattle.dt_live.specs.Placed.Tables.{IsTable, hidden}
use Rattle.dt_live.specs.Placed.PlacedTrees.{AreSound, IsOwner, root_rows}
use Rattle.dt_live.proofs.PlacedLemmas.PlaceClimbs.{IsGrown, holds-same, holds-step, made-same, path-same, path-step}
use Rattle.dt_live.proofs.PlacedLemmas.RowTables.{pushed, pushed-new, pushed-old, pushed-past, set-here, set-there}

-- ---- rows that are seen the same
pub map-by : {X Y : Type 0} (f g : X → Y) (d : X) (xs : List X) → ((k : ℕ) → k < length xs → g (slice_index_or xs k d) ≡ f (slice_index_or xs k d)) → map g xs ≡ map f xs
map-by f g d [] same = refl
map-by f g d (x ∷ xs) same = ap₂ (λ y ys. y ∷ ys) (same 0 (omega arith)) (map-by f g d xs (λ k below. same (suc k) (omega (arith, below))))

pub none-removed : {X : Type 0} (is : X → Bool) (d : Row X) (rs : List (Row X)) → ((k : ℕ) → k < length rs → is (slice_index_or rs k d).what ≡ false) → all_removed is rs ≡ rs
none-removed is d [] none = refl
none-removed is d (r ∷ rs) none =
    ap₂ (λ y ys. y ∷ ys) (ap (λ b. if b then place r.what else r) (none 0 (omega arith))) (none-removed is d rs (λ k below. none (suc k) (omega (arith, below))))

-- ---- the root's row
module _ (is : Path → Bool) (not_root : is [] ≡ false) (b : Bool) (xs : List (Row Path)) where
  pub root-place : has_place is (root_rows b ++ xs) ≡ has_place is xs
  root-place = by b where
    by : (b : Bool) → has_place is (root_rows b ++ xs) ≡ has_place is xs
    by true = ap (λ c. c || has_place is xs) not_root
    by false = refl

  pub root-two : has_two_places is (root_rows b ++ xs) ≡ has_two_places is xs
  root-two = by b where
    by : (b : Bool) → has_two_places is (root_rows b ++ xs) ≡ has_two_places is xs
    by true = ap (λ c. if c then has_place is xs else has_two_places is xs) not_root
    by false = refl

  pub root-stands : one_stands is (root_rows b ++ xs) ≡ one_stands is xs
  root-stands = by b where
    by : (b : Bool) → one_stands is (root_rows b ++ xs) ≡ one_stands is xs
    by true = ap (λ c. c || one_stands is xs) not_root
    by false = refl

  pub root-put : (x : Path) → put_in_place is x (root_rows b ++ xs) ≡ root_rows b ++ put_in_place is x xs
  root-put x = by b where
    by : (b : Bool) → put_in_place is x (root_rows b ++ xs) ≡ root_rows b ++ put_in_place is x xs
    by true = ap (λ c. if c then row x ∷ xs else row [] ∷ put_in_place is x xs) not_root
    by false = refl

  pub root-removed : all_removed is (root_rows b ++ xs) ≡ root_rows b ++ all_removed is xs
  root-removed = by b where
    by : (b : Bool) → all_removed is (root_rows b ++ xs) ≡ root_rows b ++ all_removed is xs
    by true = ap (λ c. (if c then place [] else row []) ∷ all_removed is xs) not_root
    by false = refl

-- ---- tables in place of others
pub with-nodes : {N P L : Type 0} (nodes : List (Place N)) (fn : Found) (ps : List (Place P)) (fp : Found) (ls : List (Place L)) (fl : Found) (clock : ℕ) → AreSound nodes fn ps fp ls fl clock
    → (nodes' : List (Place N)) (fn' : Found) (clock' : ℕ) → IsTable nodes' fn' → IsGrown nodes' → ((n : ℕ) → IsOwner nodes fn n → IsOwner nodes' fn' n) → ((k : ℕ) → IsOwner nodes' fn' (place_at nodes' k).owner)
    → ((k : ℕ) → (place_at nodes' k).made ≤ clock') → clock ≤ clock' → AreSound nodes' fn' ps fp ls fl clock'
with-nodes nodes fn ps fp ls fl clock sound nodes' fn' clock' table grown keep owners early later = record {
  nodes_table = table;
  properties_table = sound.properties_table;
  labels_table = sound.labels_table;
  grown = grown;
  node_owners = owners;
  property_owners = λ k. keep (place_at ps k).owner (sound.property_owners k);
  label_owners = λ k. keep (place_at ls k).owner (sound.label_owners k);
  early = early;
  early_properties = λ k. omega (arith, sound.early_properties k, later);
  early_labels = λ k. omega (arith, sound.early_labels k, later);
  ticking = omega (arith, sound.ticking, later);
}

-- ---- one row more
module _ {X : Type 0} (old : List (Place X)) (r : Place X) (grown : IsGrown old) (within : r.owner ≤ length old) where
  pub grown-pushed : IsGrown (pushed old r)
  grown-pushed k = elim (cases_lt k (length old)) [
    | inl below ↦ omega (arith, ap (λ x. x.owner) (pushed-old old r k below), grown k)
    | inr above ↦ elim (cases_eq k (length old)) [
      | inl same ↦ omega (arith, ap (λ j. (place_at (pushed old r) j).owner) same, ap (λ x. x.owner) (pushed-new old r), within, same)
      | inr other ↦ omega (arith, ap (λ x. x.owner) (pushed-past old r k (omega (arith, above, other))))
    ]
  ]

  pub path-pushed : (n : ℕ) → n ≤ length old → path_of (pushed old r) n ≡ path_of old n
  path-pushed n le = path-same old (pushed old r) (length old) grown (λ k below. ap (λ x. x.owner) (pushed-old old r k below)) (λ k below. ap (λ x. x.name.now) (pushed-old old r k below)) n n le

  pub holds-pushed : (n : ℕ) → n ≤ length old → holds (pushed old r) n ≡ holds old n
  holds-pushed n le = holds-same old (pushed old r) (length old) grown (pushed-old old r) n n le

  pub there-pushed : {Y : Type 0} (x : Place Y) → x.owner ≤ length old → is_there (pushed old r) x ≡ is_there old x
  there-pushed x le =
      ap₂ (λ (m : ℕ) (b : Bool). (not x.removed && nat_le m x.made) && b) (made-same old (pushed old r) (length old) (pushed-old old r) x.owner le) (holds-pushed x.owner le)

  pub last-pushed : holds (pushed old r) (suc (length old)) ≡ is_there old r
  last-pushed =
      holds-step (pushed old r) grown-pushed (length old)
      ∙ ap (λ (x : Place X). is_there (pushed old r) x) (pushed-new old r)
      ∙ there-pushed r within

  pub path-last : path_of (pushed old r) (suc (length old)) ≡ path_of old r.owner ++ r.name.now ∷ []
  path-last =
      path-step (pushed old r) grown-pushed (length old)
      ∙ ap (λ (x : Place X). path_of (pushed old r) x.owner ++ x.name.now ∷ []) (pushed-new old r)
      ∙ ap (λ q. q ++ r.name.now ∷ []) (path-pushed r.owner within)

  -- those that have something have it still
  pub owner-pushed : (found found' : Found) → ((n : ℕ) (k : List ℕ) → found' n k ≡ (if is_key r.owner r.name.now n k then Some (length old) else found n k))
      → (n : ℕ) → ((k : ℕ) → n ≡ suc k → found r.owner r.name.now ≡ Some k → ⊥) → IsOwner old found n → IsOwner (pushed old r) found' n
  owner-pushed found found' noted n apart own k is =
      let o = own k is in
      let at = pushed-old old r k o.0 in
      let x = place_at old k in
      let same : found' x.owner x.name.now ≡ Some k = elim (key-cases r.owner r.name.now x.owner x.name.now) [
        | inl met ↦ absurd (apart k is (ap₂ found met.1 met.2 ∙ o.1))
        | inr other ↦ noted x.owner x.name.now ∙ ap (λ b. if b then Some (length old) else found x.owner x.name.now) other ∙ o.1
      ] in
      (omega (arith, length_push old r, o.0), ap (λ y. found' y.owner y.name.now) at ∙ same, omega (arith, o.2, ap (λ y. y.made) at))

-- ---- a row that doesn't stand is hidden
module _ {X : Type 0} (old : List (Place X)) (i : ℕ) (within : i < length old) (grown : IsGrown old) (away : holds old (suc i) ≡ false) where
  abbrev pub mid : List (Place X)
  mid = slice_set old i (hidden (place_at old i))

  mid-there : (k : ℕ) → k ≢ i → place_at mid k ≡ place_at old k
  mid-there = set-there old i (hidden (place_at old i)) within

  mid-here : place_at mid i ≡ hidden (place_at old i)
  mid-here = set-here old i (hidden (place_at old i)) within

  pub mid-owner : (k : ℕ) → (place_at mid k).owner ≡ (place_at old k).owner
  mid-owner k = elim (cases_eq k i) [
    | inl same ↦ ap (λ j. (place_at mid j).owner) same ∙ ap (λ x. x.owner) mid-here ∙ ap (λ j. (place_at old j).owner) (sym same)
    | inr other ↦ ap (λ x. x.owner) (mid-there k other)
  ]

  mid-name : (k : ℕ) → (place_at mid k).name.now ≡ (place_at old k).name.now
  mid-name k = elim (cases_eq k i) [
    | inl same ↦ ap (λ j. (place_at mid j).name.now) same ∙ ap (λ x. x.name.now) mid-here ∙ ap (λ j. (place_at old j).name.now) (sym same)
    | inr other ↦ ap (λ x. x.name.now) (mid-there k other)
  ]

  pub mid-made : (k : ℕ) → (place_at mid k).made ≡ (place_at old k).made
  mid-made k = elim (cases_eq k i) [
    | inl same ↦ ap (λ j. (place_at mid j).made) same ∙ ap (λ x. x.made) mid-here ∙ ap (λ j. (place_at old j).made) (sym same)
    | inr other ↦ ap (λ x. x.made) (mid-there k other)
  ]

  mid-made_at : (n : ℕ) → made_at mid n ≡ made_at old n
  mid-made_at zero = refl
  mid-made_at (suc k) = mid-made k

  pub mid-grown : IsGrown mid
  mid-grown k = omega (arith, mid-owner k, grown k)

  pub mid-path : (n : ℕ) → path_of mid n ≡ path_of old n
  mid-path n = path-same old mid n grown (λ k below. mid-owner k) (λ k below. mid-name k) n n (omega arith)

  pub mid-holds : (f n : ℕ) → n ≤ f → holds mid n ≡ holds old n
  mid-holds f zero le = refl
  mid-holds zero (suc k) le = absurd (omega (arith, le))
  mid-holds (suc f) (suc k) le = elim (cases_eq k i) [
    | inl same ↦
        holds-step mid mid-grown k
        ∙ ap (λ b. (not b && nat_le (made_at mid (place_at mid k).owner) (place_at mid k).made) && holds mid (place_at mid k).owner) (ap (λ j. (place_at mid j).removed) same ∙ ap (λ x. x.removed) mid-here)
        ∙ sym away ∙ ap (λ j. holds old (suc j)) (sym same)
    | inr other ↦
        let x = place_at old k in
        holds-step mid mid-grown k
        ∙ ap (λ (y : Place X). is_made mid y && holds mid y.owner) (mid-there k other)
        ∙ ap₂ (λ (m : ℕ) (b : Bool). (not x.removed && nat_le m x.made) && b) (mid-made_at x.owner) (mid-holds f x.owner (omega (arith, grown k, le)))
        ∙ sym (holds-step old grown k)
  ]

  pub mid-is_there : {Y : Type 0} (x : Place Y) → is_there mid x ≡ is_there old x
  mid-is_there x = ap₂ (λ (m : ℕ) (b : Bool). (not x.removed && nat_le m x.made) && b) (mid-made_at x.owner) (mid-holds x.owner x.owner (omega arith))

  -- those that have something have it still
  pub mid-keeps : (found : Found) → (place_at old i).made ≡ 0 → (n : ℕ) → IsOwner old found n → IsOwner mid found n
  mid-keeps found never n own k is =
      let o = own k is in
      let other : k ≢ i = λ e. absurd (omega (arith, o.2, ap (λ j. (place_at old j).made) e, never)) in
      let at = mid-there k other in
      (omega (arith, o.0, length-set old i (hidden (place_at old i))), ap (λ y. found y.owner y.name.now) at ∙ o.1, omega (arith, o.2, ap (λ y. y.made) at))

-- ---- a row that counts is made or removed
module _ {X : Type 0} (old : List (Place X)) (i : ℕ) (r : Place X) (within : i < length old) (owner : r.owner ≡ (place_at old i).owner) (name : r.name.now ≡ (place_at old i).name.now) (grown : IsGrown old) where
  abbrev changed : List (Place X)
  changed = slice_set old i r

  pub changed-owner : (k : ℕ) → (place_at changed k).owner ≡ (place_at old k).owner
  changed-owner k = elim (cases_eq k i) [
    | inl same ↦ ap (λ j. (place_at changed j).owner) same ∙ ap (λ x. x.owner) (set-here old i r within) ∙ owner ∙ ap (λ j. (place_at old j).owner) (sym same)
    | inr other ↦ ap (λ x. x.owner) (set-there old i r within k other)
  ]

  pub changed-name : (k : ℕ) → (place_at changed k).name.now ≡ (place_at old k).name.now
  changed-name k = elim (cases_eq k i) [
    | inl same ↦ ap (λ j. (place_at changed j).name.now) same ∙ ap (λ x. x.name.now) (set-here old i r within) ∙ name ∙ ap (λ j. (place_at old j).name.now) (sym same)
    | inr other ↦ ap (λ x. x.name.now) (set-there old i r within k other)
  ]

  pub changed-grown : IsGrown changed
  changed-grown k = omega (arith, changed-owner k, grown k)

  pub changed-path : (n : ℕ) → path_of changed n ≡ path_of old n
  changed-path n = path-same old changed n grown (λ k below. changed-owner k) (λ k below. changed-name k) n n (omega arith)

  pub changed-keeps : (found : Found) → ((place_at old i).made ≤ r.made) → (n : ℕ) → IsOwner old found n → IsOwner changed found n
  changed-keeps found more n own k is =
      let o = own k is in (
        omega (arith, o.0, length-set old i r),
        ap₂ found (changed-owner k) (changed-name k) ∙ o.1,
        (elim (cases_eq k i) [
          | inl same ↦ omega (arith, o.2, more, ap (λ j. (place_at old j).made) same, ap (λ j. (place_at changed j).made) same, ap (λ x. x.made) (set-here old i r within))
          | inr other ↦ omega (arith, o.2, ap (λ x. x.made) (set-there old i r within k other))
        ]),
      )
