-- One edit of the rows of properties is one edit of the tree.
use Rattle.std.proofs.Common.{◌≡◌, ◌≢◌, inl, inr, ℕ, ◌<◌, ◌≤◌, true, List, [], ◌∷◌, ◌++◌, length, slice_set, Option, Some, None, IsSome, if◌then◌else◌, refl, sym, ap, ap₂, ◌∙◌, subst, true≢false, arith}
use Rattle.std.proofs.lemmas.Bool.{cases_eq, cases_lt}
use Rattle.std.proofs.lemmas.List.{get_or-set_same, get_or-set_other, get_or_past, get_or_append_left, get_or_push, length_push, length-set}
use Rattle.dt_live.specs.declared.live_tree.NodeRow.{NodeRow}
use Rattle.dt_live.specs.declared.live_tree.PropertyRow.{PropertyRow}
use Rattle.dt_live.specs.Index.{is_key}
use Rattle.dt_live.specs.Rows.{Found, path_of, stands, IsGrown, IsNodeIndex, IsPropertyIndex, property_at, no_property}
use Rattle.dt_live.proofs.Keys.{key-same, key-cases}
use Rattle.dt_live.proofs.Climbs.{one-node}
use Rattle.dt_live.proofs.StandingProperties.{IsApart}
use Rattle.dt_live.proofs.NodeRows.{absent-present, some-is}
use Rattle.dt_live.proofs.Replaced.{kept-at}

-- ---- a property is put in its place
module _ {V : Type 0} (old : List (PropertyRow V)) (i : ℕ) (r : PropertyRow V) (within : i < length old) (node : r.node ≡ (property_at old i).node) (name : r.name.now ≡ (property_at old i).name.now) where
  abbrev pub replaced : List (PropertyRow V)
  replaced = slice_set old i r

  pub replaced-here : property_at replaced i ≡ r
  replaced-here = get_or-set_same old i r no_property within

  pub replaced-there : (k : ℕ) → k ≢ i → property_at replaced k ≡ property_at old k
  replaced-there k other = get_or-set_other old i k r no_property other

  pub replaced-nodes : (k : ℕ) → (property_at replaced k).node ≡ (property_at old k).node
  replaced-nodes = kept-at (λ x. x.node) old i r no_property within node

  pub replaced-index : (index : Found) → IsPropertyIndex old index → IsSome (property_at old i).value → IsSome r.value → IsPropertyIndex replaced index
  replaced-index index indexed was is = record {
    right = λ n k j found.
        let before = indexed.right n k j found in
        elim (cases_eq j i) [
          | inl same ↦
              let P : ℕ → Type 0 = λ m. (m < length replaced) × ((property_at replaced m).node ≡ n) × ((property_at replaced m).name.now ≡ k) × IsSome (property_at replaced m).value in
              let Q : PropertyRow V → Type 0 = λ x. IsSome x.value in
              subst P (sym same) (
                omega (arith, length-set old i r),
                ap (λ x. x.node) replaced-here ∙ node ∙ ap (λ m. (property_at old m).node) (sym same) ∙ before.1,
                ap (λ x. x.name.now) replaced-here ∙ name ∙ ap (λ m. (property_at old m).name.now) (sym same) ∙ before.2,
                subst Q (sym replaced-here) is,
              )
          | inr other ↦
              let at = replaced-there j other in
              let Q : PropertyRow V → Type 0 = λ x. IsSome x.value in
              (omega (arith, length-set old i r, before.0), ap (λ x. x.node) at ∙ before.1, ap (λ x. x.name.now) at ∙ before.2, subst Q (sym at) before.3)
        ];
    whole = λ j there. elim (cases_eq j i) [
      | inl same ↦
          ap (λ m. index (property_at replaced m).node (property_at replaced m).name.now) same
          ∙ ap (λ x. index x.node x.name.now) replaced-here
          ∙ ap₂ (λ n k. index n k) node name
          ∙ indexed.whole i was ∙ ap (λ m. Some m) (sym same)
      | inr other ↦
          let at = replaced-there j other in
          let Q : PropertyRow V → Type 0 = λ x. IsSome x.value in
          ap (λ x. index x.node x.name.now) at ∙ indexed.whole j (subst Q at there)
    ];
  }

-- two rows that are shown differ in node or name
pub rows-apart : {V : Type 0} (nodes : List NodeRow) (index : Found) (rows : List (PropertyRow V)) (properties : Found) → IsGrown nodes → IsNodeIndex nodes index → IsPropertyIndex rows properties
    → (node : ℕ) (name : List ℕ) → stands nodes node ≡ true → (j : ℕ) → (properties node name ≡ Some j → ⊥)
    → IsApart (path_of nodes) (stands nodes) (path_of nodes node) name (property_at rows j)
rows-apart {V} nodes index rows properties grown indexed right node name there j apart standing_properties' v has paths names =
    let r = property_at rows j in
    let same : node ≡ r.node = one-node nodes index grown indexed node node r.node (omega arith) there standing_properties' paths in
    let Q : Option V → Type 0 = λ o. IsSome o in
    apart (ap₂ (λ n k. properties n k) same names ∙ right.whole j (subst Q (sym has) refl))

pub no-some : (V : Type 0) → IsSome {T = V} None → ⊥
no-some V h = true≢false (sym h)

-- ---- a property goes last
module _ {V : Type 0} (old : List (PropertyRow V)) (r : PropertyRow V) where
  abbrev pub more : List (PropertyRow V)
  more = old ++ r ∷ []

  pub more-old : (k : ℕ) → k < length old → property_at more k ≡ property_at old k
  more-old k below = get_or_append_left old (r ∷ []) no_property k below

  pub more-new : property_at more (length old) ≡ r
  more-new = get_or_push old r no_property (length old) refl

  pub more-past : (k : ℕ) → length old < k → property_at more k ≡ no_property
  more-past k above = get_or_past more k no_property (omega (arith, length_push old r))

  pub more-known : (m : ℕ) → r.node ≤ m → ((i : ℕ) → (property_at old i).node ≤ m) → (i : ℕ) → (property_at more i).node ≤ m
  more-known m here known i = elim (cases_lt i (length old)) [
    | inl below ↦ omega (arith, ap (λ x. x.node) (more-old i below), known i)
    | inr above ↦ elim (cases_eq i (length old)) [
      | inl same ↦ omega (arith, ap (λ j. (property_at more j).node) same ∙ ap (λ x. x.node) more-new)
      | inr other ↦ omega (arith, ap (λ x. x.node) (more-past i (omega (arith, other))))
    ]
  ]

  pub more-index : (index index' : Found) → IsPropertyIndex old index → IsSome r.value → index r.node r.name.now ≡ None
      → ((n : ℕ) (k : List ℕ) → index' n k ≡ (if is_key r.node r.name.now n k then Some (length old) else index n k)) → IsPropertyIndex more index'
  more-index index index' indexed is absent noted =
      let Q : PropertyRow V → Type 0 = λ x. IsSome x.value in
      record {
        right = λ n k j found. elim (key-cases r.node r.name.now n k) [
          | inl same ↦
              let at : length old ≡ j = some-is _ _ (sym (noted n k ∙ ap (λ b. if b then Some (length old) else index n k) same.0) ∙ found) in
              let here : property_at more j ≡ r = ap (λ m. property_at more m) (sym at) ∙ more-new in
              (omega (arith, length_push old r), ap (λ x. x.node) here ∙ same.1, ap (λ x. x.name.now) here ∙ same.2, subst Q (sym here) is)
          | inr other ↦
              let before = indexed.right n k j (sym (noted n k ∙ ap (λ b. if b then Some (length old) else index n k) other) ∙ found) in
              let at = more-old j before.0 in
              (omega (arith, length_push old r, before.0), ap (λ x. x.node) at ∙ before.1, ap (λ x. x.name.now) at ∙ before.2, subst Q (sym at) before.3)
        ];
        whole = λ i there. elim (cases_lt i (length old)) [
          | inl below ↦
              let at = more-old i below in
              let had = indexed.whole i (subst Q at there) in
              ap (λ x. index' x.node x.name.now) at
              ∙ noted (property_at old i).node (property_at old i).name.now
              ∙ (elim (key-cases r.node r.name.now (property_at old i).node (property_at old i).name.now) [
                | inl same ↦ absurd (absent-present _ _ absent (ap₂ (λ n k. index n k) same.1 same.2 ∙ had))
                | inr other ↦ ap (λ b. if b then Some (length old) else index (property_at old i).node (property_at old i).name.now) other ∙ had
              ])
          | inr above ↦ elim (cases_eq i (length old)) [
            | inl same ↦
                ap (λ j. index' (property_at more j).node (property_at more j).name.now) same
                ∙ ap (λ x. index' x.node x.name.now) more-new
                ∙ noted r.node r.name.now
                ∙ ap (λ b. if b then Some (length old) else index r.node r.name.now) (key-same r.node r.name.now)
                ∙ ap (λ j. Some j) (sym same)
            | inr other ↦ let none : IsSome (property_at more i).value = there in absurd (no-some V (subst Q (more-past i (omega (arith, other))) there))
          ]
        ];
      }

-- what is there
pub some-of : {V : Type 0} (o : Option V) → IsSome o → (w : V) × (o ≡ Some w)
some-of {V} None h = absurd (no-some V h)
some-of (Some w) h = (w, refl)

-- ---- a property is marked as removed
module _ {V : Type 0} (old : List (PropertyRow V)) (i : ℕ) (r : PropertyRow V) (within : i < length old) (node : r.node ≡ (property_at old i).node) (name : r.name.now ≡ (property_at old i).name.now) (none : r.value ≡ None) where
  pub emptied-index : (index index' : Found) → IsPropertyIndex old index → IsSome (property_at old i).value
      → ((n : ℕ) (k : List ℕ) → index' n k ≡ (if is_key (property_at old i).node (property_at old i).name.now n k then None else index n k)) → IsPropertyIndex (slice_set old i r) index'
  emptied-index index index' indexed was noted =
      let Q : PropertyRow V → Type 0 = λ x. IsSome x.value in
      record {
        right = λ n k j found. elim (key-cases (property_at old i).node (property_at old i).name.now n k) [
          | inl same ↦ absurd (absent-present _ _ (noted n k ∙ ap (λ b. if b then None else index n k) same.0) found)
          | inr other ↦
              let before = indexed.right n k j (sym (noted n k ∙ ap (λ b. if b then None else index n k) other) ∙ found) in
              let apart : j ≢ i = λ e. true≢false (
              sym (key-same (property_at old i).node (property_at old i).name.now)
              ∙ ap₂ (λ a b. is_key (property_at old i).node (property_at old i).name.now a b)
              (ap (λ m. (property_at old m).node) (sym e) ∙ before.1) (ap (λ m. (property_at old m).name.now) (sym e) ∙ before.2)
              ∙ other)
              in
              let at = replaced-there old i r within node name j apart in
              (omega (arith, length-set old i r, before.0), ap (λ x. x.node) at ∙ before.1, ap (λ x. x.name.now) at ∙ before.2, subst Q (sym at) before.3)
        ];
        whole = λ j there. elim (cases_eq j i) [
          | inl same ↦
              let O : Option V → Type 0 = λ o. IsSome o in
              absurd (no-some V (subst O (ap (λ m. (property_at (slice_set old i r) m).value) same ∙ ap (λ x. x.value) (replaced-here old i r within node name) ∙ none) there))
          | inr apart ↦
              let at = replaced-there old i r within node name j apart in
              let had = indexed.whole j (subst Q at there) in
              ap (λ x. index' x.node x.name.now) at
              ∙ noted (property_at old j).node (property_at old j).name.now
              ∙ (elim (key-cases (property_at old i).node (property_at old i).name.now (property_at old j).node (property_at old j).name.now) [
                | inl same ↦ absurd (apart (some-is _ _ (sym had ∙ ap₂ (λ n k. index n k) (sym same.1) (sym same.2) ∙ indexed.whole i was)))
                | inr other ↦ ap (λ b. if b then None else index (property_at old j).node (property_at old j).name.now) other ∙ had
              ])
        ];
      }
