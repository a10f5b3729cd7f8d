-- Tables after one change.
use Rattle.std.proofs.Common.{◌≡◌, ◌≢◌, ◌⊎◌, inl, inr, ℕ, ◌+◌, ◌<◌, true, false, List, [], ◌∷◌, ◌++◌, length, slice_set, Some, None, if◌then◌else◌, refl, sym, ap, ap₂, ◌∙◌, subst, true≢false, arith}
use Rattle.std.proofs.lemmas.Bool.{cases_eq, cases_lt}
use Rattle.std.proofs.lemmas.List.{get_or-set_same, get_or-set_other, get_or_past, get_or_append_left, get_or_push, length_push, length-set}
use Rattle.dt_live.specs.Index.{is_key}
use Rattle.dt_live.specs.Rows.{Found}
use Rattle.dt_live.proofs.Keys.{key-cases, key-same}
use Rattle.dt_live.proofs.NodeRows.{absent-present, some-is}
use Rattle.dt_live.specs.declared.placed.place.Place.{Place}
use Rattle.dt_live.specs.Placed.Rows.{no_place, place_at}
use Rattle.dt_live.specs.Placed.Tables.{IsBehind, IsTable}

-- ---- a row more
module _ {X : Type 0} (old : List (Place X)) (r : Place X) where
  abbrev pub pushed : List (Place X)
  pushed = old ++ r ∷ []

  pub pushed-old : (k : ℕ) → k < length old → place_at pushed k ≡ place_at old k
  pushed-old k below = get_or_append_left old (r ∷ []) no_place k below

  pub pushed-new : place_at pushed (length old) ≡ r
  pushed-new = get_or_push old r no_place (length old) refl

  pub pushed-past : (k : ℕ) → length old < k → place_at pushed k ≡ no_place
  pushed-past k above = get_or_past pushed k no_place (omega (arith, length_push old r, above))

  pub each-pushed : (P : Place X → Type 0) → ((k : ℕ) → P (place_at old k)) → P r → P no_place → (k : ℕ) → P (place_at pushed k)
  each-pushed P before here none k = elim (cases_lt k (length old)) [
    | inl below ↦ subst P (sym (pushed-old k below)) (before k)
    | inr above ↦ elim (cases_eq k (length old)) [
      | inl same ↦ subst P (sym (ap (place_at pushed) same ∙ pushed-new)) here
      | inr other ↦ subst P (sym (pushed-past k (omega (arith, above, other)))) none
    ]
  ]

-- ---- a row is another one, of the same name
module _ {X : Type 0} (old : List (Place X)) (i : ℕ) (r : Place X) (within : i < length old) where
  pub set-here : place_at (slice_set old i r) i ≡ r
  set-here = get_or-set_same old i r no_place within

  pub set-there : (k : ℕ) → k ≢ i → place_at (slice_set old i r) k ≡ place_at old k
  set-there k other = get_or-set_other old i k r no_place other

  pub each-set : (P : Place X → Type 0) → ((k : ℕ) → P (place_at old k)) → P r → (k : ℕ) → P (place_at (slice_set old i r) k)
  each-set P before here k = elim (cases_eq k i) [
    | inl same ↦ subst P (sym (ap (place_at (slice_set old i r)) same ∙ set-here)) here
    | inr other ↦ subst P (sym (set-there k other)) (before k)
  ]

  module _ (owner : r.owner ≡ (place_at old i).owner) (name : r.name.now ≡ (place_at old i).name.now) where
    pub set-owners : (k : ℕ) → (place_at (slice_set old i r) k).owner ≡ (place_at old k).owner
    set-owners k = elim (cases_eq k i) [
      | inl same ↦ ap (λ j. (place_at (slice_set old i r) j).owner) same ∙ ap (λ x. x.owner) set-here ∙ owner ∙ ap (λ j. (place_at old j).owner) (sym same)
      | inr other ↦ ap (λ x. x.owner) (set-there k other)
    ]

    pub set-names : (k : ℕ) → (place_at (slice_set old i r) k).name.now ≡ (place_at old k).name.now
    set-names k = elim (cases_eq k i) [
      | inl same ↦ ap (λ j. (place_at (slice_set old i r) j).name.now) same ∙ ap (λ x. x.name.now) set-here ∙ name ∙ ap (λ j. (place_at old j).name.now) (sym same)
      | inr other ↦ ap (λ x. x.name.now) (set-there k other)
    ]

    -- a row that counts is made or removed
    pub table-set : (found : Found) → IsTable old found → found (place_at old i).owner (place_at old i).name.now ≡ Some i → r.again ≡ (place_at old i).again → IsTable (slice_set old i r) found
    table-set found table counts again = record {
      right = λ n k j has.
          let was = table.right n k j has in
          (omega (arith, was.0, length-set old i r), (set-owners j ∙ was.1.0, set-names j ∙ was.1.1));
      whole = λ j below.
          let was = table.whole j (omega (arith, below, length-set old i r)) in
          (was.0, ap₂ found (set-owners j) (set-names j) ∙ was.1, behind j was.0 was.1 was.2);
      again = λ j twice.
          let was = table.again j (sym (set-again j) ∙ twice) in
          (was.0, was.1, (set-owners was.0 ∙ was.2.0 ∙ sym (set-owners j), set-names was.0 ∙ was.2.1 ∙ sym (set-names j)));
    } where
      set-again : (k : ℕ) → (place_at (slice_set old i r) k).again ≡ (place_at old k).again
      set-again k = elim (cases_eq k i) [
        | inl same ↦ ap (λ j. (place_at (slice_set old i r) j).again) same ∙ ap (λ x. x.again) set-here ∙ again ∙ ap (λ j. (place_at old j).again) (sym same)
        | inr other ↦ ap (λ x. x.again) (set-there k other)
      ]

      behind : (j m : ℕ) → found (place_at old j).owner (place_at old j).name.now ≡ Some m → (j ≡ m) ⊎ IsBehind old j m → (j ≡ m) ⊎ IsBehind (slice_set old i r) j m
      behind j m has (inl same) = inl same
      behind j m has (inr b) = elim (cases_eq j i) [
        | inl same ↦
            let is : i ≡ m = some-is i m (sym counts ∙ ap (λ k. found (place_at old k).owner (place_at old k).name.now) (sym same) ∙ has) in
            absurd (omega (arith, b.0, same, is))
        | inr other ↦ inr (b.0, ap (λ x. x.removed) (set-there j other) ∙ b.1, set-again m ∙ b.2)
      ]

-- ---- a name that had no row
pub table-new : {X : Type 0} (old : List (Place X)) (r : Place X) (found found' : Found) → IsTable old found → found r.owner r.name.now ≡ None → r.again ≡ false
    → ((n : ℕ) (k : List ℕ) → found' n k ≡ (if is_key r.owner r.name.now n k then Some (length old) else found n k)) → IsTable (pushed old r) found'
table-new old r found found' table none single noted = record {
  right = λ n k j has. elim (key-cases r.owner r.name.now n k) [
    | inl same ↦
        let is : length old ≡ j = some-is _ _ (sym (noted n k ∙ ap (λ b. if b then Some (length old) else found n k) same.0) ∙ has) in
        (omega (arith, length_push old r, is), (ap (λ i. (place_at (pushed old r) i).owner) (sym is) ∙ ap (λ x. x.owner) (pushed-new old r) ∙ same.1, ap (λ i. (place_at (pushed old r) i).name.now) (sym is) ∙ ap (λ x. x.name.now) (pushed-new old r) ∙ same.2))
    | inr other ↦
        let was = table.right n k j (sym (noted n k ∙ ap (λ b. if b then Some (length old) else found n k) other) ∙ has) in
        let at = pushed-old old r j was.0 in
        (omega (arith, length_push old r, was.0), (ap (λ x. x.owner) at ∙ was.1.0, ap (λ x. x.name.now) at ∙ was.1.1))
  ];
  whole = λ j below. elim (cases_lt j (length old)) [
    | inl under ↦
        let was = table.whole j under in
        let at = pushed-old old r j under in
        let m = was.0 in
        let known = (table.right (place_at old j).owner (place_at old j).name.now m was.1).0 in (
          m,
          ap₂ found' (ap (λ x. x.owner) at) (ap (λ x. x.name.now) at) ∙ kept (place_at old j).owner (place_at old j).name.now m was.1,
          behind j m under known was.2,
        )
    | inr above ↦
        let is : j ≡ length old = omega (arith, length_push old r, below, above) in (
          length old,
          ap (λ i. found' (place_at (pushed old r) i).owner (place_at (pushed old r) i).name.now) is
              ∙ ap (λ x. found' x.owner x.name.now) (pushed-new old r) ∙ noted r.owner r.name.now ∙ ap (λ b. if b then Some (length old) else found r.owner r.name.now) (key-same r.owner r.name.now),
          inl is,
        )
  ];
  again = λ j twice. elim (cases_lt j (length old)) [
    | inl under ↦
        let at = pushed-old old r j under in
        let was = table.again j (sym (ap (λ x. x.again) at) ∙ twice) in
        let at' = pushed-old old r was.0 (omega (arith, was.1, under)) in
        (was.0, was.1, (ap (λ x. x.owner) at' ∙ was.2.0 ∙ sym (ap (λ x. x.owner) at), ap (λ x. x.name.now) at' ∙ was.2.1 ∙ sym (ap (λ x. x.name.now) at)))
    | inr above ↦ elim (cases_eq j (length old)) [
      | inl same ↦ absurd (true≢false (sym twice ∙ ap (λ i. (place_at (pushed old r) i).again) same ∙ ap (λ x. x.again) (pushed-new old r) ∙ single))
      | inr other ↦ absurd (true≢false (sym twice ∙ ap (λ x. x.again) (pushed-past old r j (omega (arith, above, other)))))
    ]
  ];
} where
  kept : (n : ℕ) (k : List ℕ) (m : ℕ) → found n k ≡ Some m → found' n k ≡ Some m
  kept n k m has = elim (key-cases r.owner r.name.now n k) [
    | inl same ↦ absurd (absent-present (found n k) m (sym (ap₂ found same.1 same.2) ∙ none) has)
    | inr other ↦ noted n k ∙ ap (λ b. if b then Some (length old) else found n k) other ∙ has
  ]

  behind : (j m : ℕ) → j < length old → m < length old → (j ≡ m) ⊎ IsBehind old j m → (j ≡ m) ⊎ IsBehind (pushed old r) j m
  behind j m under known (inl same) = inl same
  behind j m under known (inr b) = inr (b.0, ap (λ x. x.removed) (pushed-old old r j under) ∙ b.1, ap (λ x. x.again) (pushed-old old r m known) ∙ b.2)

-- ---- a second row of a name
pub table-again : {X : Type 0} (old : List (Place X)) (i : ℕ) (h r : Place X) (found found' : Found) → IsTable old found → i < length old → found (place_at old i).owner (place_at old i).name.now ≡ Some i
    → h.owner ≡ (place_at old i).owner → h.name.now ≡ (place_at old i).name.now → h.removed ≡ true → h.again ≡ (place_at old i).again
    → r.owner ≡ (place_at old i).owner → r.name.now ≡ (place_at old i).name.now → r.again ≡ true
    → ((n : ℕ) (k : List ℕ) → found' n k ≡ (if is_key (place_at old i).owner (place_at old i).name.now n k then Some (length old) else found n k)) → IsTable (slice_set old i h ++ r ∷ []) found'
table-again {X} old i h r found found' table within counts ho hn hr ha ro rn ra noted = record {
  right = λ n k j has. elim (key-cases x.owner x.name.now n k) [
    | inl same ↦
        let is : length old ≡ j = some-is _ _ (sym (noted n k ∙ ap (λ b. if b then Some (length old) else found n k) same.0) ∙ has) in
        (omega (arith, all, is), (ap (λ m. (place_at new m).owner) (sym is) ∙ ap (λ y. y.owner) last ∙ ro ∙ same.1, ap (λ m. (place_at new m).name.now) (sym is) ∙ ap (λ y. y.name.now) last ∙ rn ∙ same.2))
    | inr other ↦
        let was = table.right n k j (sym (noted n k ∙ ap (λ b. if b then Some (length old) else found n k) other) ∙ has) in
        (omega (arith, all, was.0), (owners j was.0 ∙ was.1.0, names j was.0 ∙ was.1.1))
  ];
  whole = λ j below. elim (cases_lt j (length old)) [
    | inl under ↦
        let was = table.whole j under in
        let same_found : found' (place_at new j).owner (place_at new j).name.now ≡ found' (place_at old j).owner (place_at old j).name.now = ap₂ found' (owners j under) (names j under) in
        counted j under was.0 was.1 was.2 same_found
    | inr above ↦
        let is : j ≡ length old = omega (arith, all, below, above) in (
          length old,
          ap (λ m. found' (place_at new m).owner (place_at new m).name.now) is ∙ ap (λ y. found' y.owner y.name.now) last ∙ ap₂ found' ro rn ∙ noted x.owner x.name.now
              ∙ ap (λ b. if b then Some (length old) else found x.owner x.name.now) (key-same x.owner x.name.now),
          inl is,
        )
  ];
  again = λ j twice. elim (cases_lt j (length old)) [
    | inl under ↦
        let was = table.again j (sym (twice-same j under) ∙ twice) in
        let first : was.0 < length old = omega (arith, was.1, under) in
        (was.0, was.1, (owners was.0 first ∙ was.2.0 ∙ sym (owners j under), names was.0 first ∙ was.2.1 ∙ sym (names j under)))
    | inr above ↦ elim (cases_eq j (length old)) [
      | inl same ↦
          (i, omega (arith, within, same), (owners i within ∙ sym (ap (λ m. (place_at new m).owner) same ∙ ap (λ y. y.owner) last ∙ ro), names i within ∙ sym (ap (λ m. (place_at new m).name.now) same ∙ ap (λ y. y.name.now) last ∙ rn)))
      | inr other ↦ absurd (true≢false (sym twice ∙ ap (λ y. y.again) (pushed-past mid r j (omega (arith, above, other, longer)))))
    ]
  ];
} where
  x : Place X
  x = place_at old i

  mid : List (Place X)
  mid = slice_set old i h

  new : List (Place X)
  new = mid ++ r ∷ []

  longer : length mid ≡ length old
  longer = length-set old i h

  all : length new ≡ length old + 1
  all = length_push mid r ∙ ap (λ n. n + 1) longer

  last : place_at new (length old) ≡ r
  last = ap (place_at new) (sym longer) ∙ pushed-new mid r

  before : (j : ℕ) → j < length old → place_at new j ≡ place_at mid j
  before j under = pushed-old mid r j (omega (arith, under, longer))

  owners : (j : ℕ) → j < length old → (place_at new j).owner ≡ (place_at old j).owner
  owners j under = ap (λ y. y.owner) (before j under) ∙ set-owners old i h within ho hn j

  names : (j : ℕ) → j < length old → (place_at new j).name.now ≡ (place_at old j).name.now
  names j under = ap (λ y. y.name.now) (before j under) ∙ set-names old i h within ho hn j

  twice-same : (j : ℕ) → j < length old → (place_at new j).again ≡ (place_at old j).again
  twice-same j under = ap (λ y. y.again) (before j under) ∙ (elim (cases_eq j i) [
    | inl same ↦ ap (λ m. (place_at mid m).again) same ∙ ap (λ y. y.again) (set-here old i h within) ∙ ha ∙ ap (λ m. (place_at old m).again) (sym same)
    | inr other ↦ ap (λ y. y.again) (set-there old i h within j other)
  ])

  -- a row that is removed in the old table is removed in the new one
  gone-it : (j : ℕ) → j < length old → j ≡ i → (place_at new j).removed ≡ true
  gone-it j under same = ap (λ y. y.removed) (before j under) ∙ ap (λ m. (place_at mid m).removed) same ∙ ap (λ y. y.removed) (set-here old i h within) ∙ hr

  gone : (j : ℕ) → j < length old → (j ≡ i) ⊎ ((place_at old j).removed ≡ true) → (place_at new j).removed ≡ true
  gone j under (inl same) = gone-it j under same
  gone j under (inr e) = elim (cases_eq j i) [
    | inl same ↦ gone-it j under same
    | inr other ↦ ap (λ y. y.removed) (before j under) ∙ ap (λ y. y.removed) (set-there old i h within j other) ∙ e
  ]

  counted : (j : ℕ) → j < length old → (m : ℕ) → found (place_at old j).owner (place_at old j).name.now ≡ Some m → (j ≡ m) ⊎ IsBehind old j m
      → found' (place_at new j).owner (place_at new j).name.now ≡ found' (place_at old j).owner (place_at old j).name.now
      → (k : ℕ) × (found' (place_at new j).owner (place_at new j).name.now ≡ Some k) × ((j ≡ k) ⊎ IsBehind new j k)
  counted j under m has order same_found = elim (key-cases x.owner x.name.now (place_at old j).owner (place_at old j).name.now) [
    | inl same ↦
        let is : m ≡ i = some-is m i (sym has ∙ ap₂ found (sym same.1) (sym same.2) ∙ counts) in (
          length old,
          same_found ∙ noted (place_at old j).owner (place_at old j).name.now ∙ ap (λ b. if b then Some (length old) else found (place_at old j).owner (place_at old j).name.now) same.0,
          inr (under, gone j under (either order is), ap (λ y. y.again) last ∙ ra),
        )
    | inr other ↦ (
      m,
      same_found ∙ noted (place_at old j).owner (place_at old j).name.now ∙ ap (λ b. if b then Some (length old) else found (place_at old j).owner (place_at old j).name.now) other ∙ has,
      kept order,
    )
  ] where
    either : (j ≡ m) ⊎ IsBehind old j m → m ≡ i → (j ≡ i) ⊎ ((place_at old j).removed ≡ true)
    either (inl e) is = inl (e ∙ is)
    either (inr b) is = inr b.1

    kept : (j ≡ m) ⊎ IsBehind old j m → (j ≡ m) ⊎ IsBehind new j m
    kept (inl e) = inl e
    kept (inr b) =
        let known = (table.right (place_at old j).owner (place_at old j).name.now m has).0 in
        inr (b.0, gone j under (inr b.1), twice-same m known ∙ b.2)

-- ---- no rows
pub table-empty : {X : Type 0} (rows : List (Place X)) (found : Found) → rows ≡ [] → ((n : ℕ) (k : List ℕ) → found n k ≡ None) → IsTable rows found
table-empty {X} rows found empty none = record {
  right = λ n k i has. absurd (absent-present (found n k) i (none n k) has);
  whole = λ j below. absurd (omega (arith, below, ap length empty));
  again = λ i twice. absurd (true≢false (sym twice ∙ ap (λ (rs : List (Place X)). (place_at rs i).again) empty));
}
