-- What is looked up in a placed tree: the first child of a node, and the value of a property.
use Rattle.std.proofs.Common.{◌≡◌, ◌⊎◌, inl, inr, ℕ, zero, suc, ◌<◌, ◌≤◌, Bool, true, false, not, ◌&&◌, nat_le, List, [], ◌∷◌, ◌++◌, length, map, Option, Some, None, if◌then◌else◌, refl, sym, ap, ap₂, ◌∙◌, true≢false, arith}
use Rattle.std.specs.Prelude.{IsSome, is_some, slice_index_or}
use Rattle.std.specs.List.{filter, find}
use Rattle.std.specs.Str.{bytes_eq}
use Rattle.std.proofs.lemmas.Bool.{and_parts, cases_lt, lt-leb}
use Rattle.std.proofs.lemmas.List.{get_or-map, length-map}
use Rattle.dt_source.specs.TreeMeaning.Paths.{Path, name_below, same_path}
use Rattle.dt_source.specs.TreeMeaning.Syntax.{Piece}
use Rattle.dt_source.specs.TreeMeaning.Edits.{Definition, definition, is_of}
use Rattle.dt_source.specs.TreeMeaning.Places.{Row, row, what_stands}
use Rattle.dt_live.specs.Rows.{Found}
use Rattle.dt_live.proofs.NodeRows.{absent-present, some-is}
use Rattle.dt_live.proofs.PathTests.{same-is, same-itself}
use Rattle.dt_live.specs.declared.placed.place.Place.{Place}
use Rattle.dt_live.specs.declared.placed.placed_tree.PlacedTree.{PlacedTree}
use Rattle.dt_live.specs.Placed.Rows.{holds, is_made, is_there, made_at, no_place, path_of, place_at}
use Rattle.dt_live.specs.Placed.Tables.{HasKey, IsBehind, found_in, rows_in}
use Rattle.dt_live.specs.Placed.PlacedTrees.{IsOwner, IsPlacedTree, IsStanding, dtc_tree, node_path, node_seen, property_seen, root_rows, value_read}
use Rattle.dt_live.specs.Placed.References.{IsFirstChild, IsValueOf, value_made}
use Rattle.dt_live.proofs.PlacedLemmas.Owners.{key-of-row, one-owner, row-of-key, standing-owner}
use Rattle.dt_live.proofs.PlacedLemmas.PlaceClimbs.{holds-step, made-first, path-step}
use Rattle.dt_live.proofs.PlacedLemmas.PropertyEdits.{removed-gone}

-- ---- the first of a list
module _ {A : Type 0} (t : A → Bool) (d : A) where
  pub none-passes : (xs : List A) → ((j : ℕ) → j < length xs → t (slice_index_or xs j d) ≡ false) → find t xs ≡ None
  none-passes [] none = refl
  none-passes (x ∷ xs) none = ap (λ b. if b then Some x else find t xs) (none 0 (omega arith)) ∙ none-passes xs (λ j below. none (suc j) (omega (arith, below)))

  pub first-passes : (xs : List A) (i : ℕ) → i < length xs → t (slice_index_or xs i d) ≡ true → ((j : ℕ) → j < i → t (slice_index_or xs j d) ≡ false) → find t xs ≡ Some (slice_index_or xs i d)
  first-passes [] i below e before = absurd (omega (arith, below))
  first-passes (x ∷ xs) zero below e before = ap (λ b. if b then Some x else find t xs) e
  first-passes (x ∷ xs) (suc i) below e before =
      ap (λ b. if b then Some x else find t xs) (before 0 (omega arith)) ∙ first-passes xs i (omega (arith, below)) e (λ j under. before (suc j) (omega (arith, under)))

-- ---- the first that stands
module _ {X : Type 0} (is : X → Bool) (d : Row X) where
  abbrev at : List (Row X) → ℕ → Row X
  at rs j = slice_index_or rs j d

  pub none-stands : (rs : List (Row X)) → ((j : ℕ) → j < length rs → is (at rs j).what ≡ true → (at rs j).stands ≡ false) → find is (what_stands rs) ≡ None
  none-stands [] none = refl
  none-stands (r ∷ rs) none = by_test (none-stands rs (λ j below e. none (suc j) (omega (arith, below)) e)) r.stands (is r.what) refl refl where
    by_test : find is (what_stands rs) ≡ None → (s b : Bool) → r.stands ≡ s → is r.what ≡ b
        → find is (map (λ x. x.what) (if s then r ∷ filter (λ x. x.stands) rs else filter (λ x. x.stands) rs)) ≡ None
    by_test rest true true es eb = absurd (true≢false (sym es ∙ none 0 (omega arith) eb))
    by_test rest true false es eb = ap (λ b. if b then Some r.what else find is (what_stands rs)) eb ∙ rest
    by_test rest false b es eb = rest

  pub first-stands : (rs : List (Row X)) (i : ℕ) → i < length rs → is (at rs i).what ≡ true → (at rs i).stands ≡ true → ((j : ℕ) → j < i → is (at rs j).what ≡ true → (at rs j).stands ≡ false)
      → find is (what_stands rs) ≡ Some (at rs i).what
  first-stands [] i below e there before = absurd (omega (arith, below))
  first-stands (r ∷ rs) zero below e there before =
      ap (λ s. find is (map (λ x. x.what) (if s then r ∷ filter (λ x. x.stands) rs else filter (λ x. x.stands) rs))) there
      ∙ ap (λ b. if b then Some r.what else find is (what_stands rs)) e
  first-stands (r ∷ rs) (suc i) below e there before =
      by_test (first-stands rs i (omega (arith, below)) e there (λ j under ej. before (suc j) (omega (arith, under)) ej)) r.stands (is r.what) refl refl where
        by_test : find is (what_stands rs) ≡ Some (at rs i).what → (s b : Bool) → r.stands ≡ s → is r.what ≡ b
            → find is (map (λ x. x.what) (if s then r ∷ filter (λ x. x.stands) rs else filter (λ x. x.stands) rs)) ≡ Some (at rs i).what
        by_test rest true true es eb = absurd (true≢false (sym es ∙ before 0 (omega arith) eb))
        by_test rest true false es eb = ap (λ b. if b then Some r.what else find is (what_stands rs)) eb ∙ rest
        by_test rest false b es eb = rest

-- ---- names below a path
none-below : (p : Path) → name_below p [] ≡ None
none-below [] = refl
none-below (x ∷ xs) = refl

below-last : (p q : Path) (n : List ℕ) → is_some (name_below p (q ++ n ∷ [])) ≡ same_path p q
below-last [] [] n = refl
below-last [] (y ∷ []) n = refl
below-last [] (y ∷ z ∷ q) n = refl
below-last (x ∷ xs) [] n = by_name (bytes_eq x n) (none-below xs) where
  by_name : (b : Bool) → name_below xs [] ≡ None → is_some (if b then name_below xs [] else None) ≡ false
  by_name true e = ap is_some e
  by_name false e = refl
below-last (x ∷ xs) (y ∷ q) n = by_name (bytes_eq x y) (below-last xs q n) where
  by_name : (b : Bool) → is_some (name_below xs (q ++ n ∷ [])) ≡ same_path xs q → is_some (if b then name_below xs (q ++ n ∷ []) else None) ≡ (b && same_path xs q)
  by_name true e = e
  by_name false e = refl

pub leb-le : (a b : ℕ) → nat_le a b ≡ true → a ≤ b
leb-le a b e = elim (cases_lt b a) [
  | inl less ↦ absurd (true≢false (sym e ∙ lt-leb a b less))
  | inr more ↦ more
]

by-not : (b : Bool) → (b ≡ true → ⊥) → b ≡ false
by-not true f = absurd (f refl)
by-not false f = refl

module _ {V : Type 0} (d : PlacedTree V) (sound : IsPlacedTree d) (node : ℕ) (standing : IsStanding d node) where
  abbrev nodes : List (Place ℕ)
  nodes = rows_in d.nodes

  own : IsOwner nodes (found_in d.nodes) node
  own = standing-owner nodes (found_in d.nodes) sound.tables.nodes_table sound.tables.grown sound.tables.node_owners node standing.known standing.there

  -- ---- the first child
  abbrev p : Path
  p = node_path d node

  abbrev is_child : Row Path → Bool
  is_child r = is_some (name_below p r.what)

  abbrev seen : Place ℕ → Row Path
  seen = node_seen nodes

  seen_at : (j : ℕ) → j < length nodes → slice_index_or (map seen nodes) j (seen no_place) ≡ seen (place_at nodes j)
  seen_at j below = get_or-map seen nodes j no_place (seen no_place) below

  child-of : (j : ℕ) → (place_at nodes j).owner ≡ node → is_child (seen (place_at nodes j)) ≡ true
  child-of j e =
      below-last p (path_of nodes (place_at nodes j).owner) (place_at nodes j).name.now ∙ ap (λ m. same_path p (path_of nodes m)) e ∙ same-itself p

  other-of : (j : ℕ) → ((place_at nodes j).owner ≡ node → ⊥) → is_child (seen (place_at nodes j)) ≡ false
  other-of j other =
      let q = path_of nodes (place_at nodes j).owner in
      below-last p q (place_at nodes j).name.now
      ∙ by-not (same_path p q) (λ e. other (sym (one-owner nodes (found_in d.nodes) sound.tables.nodes_table sound.tables.grown sound.tables.node_owners node node (place_at nodes j).owner (omega arith) own (sound.tables.node_owners j) (same-is p q e))))

  root-skipped : (b : Bool) (rs : List (Row Path)) → find is_child (root_rows b ++ rs) ≡ find is_child rs
  root-skipped true rs = ap (λ o. if is_some o then Some (row []) else find is_child rs) (none-below p)
  root-skipped false rs = refl

  count : length (map seen nodes) ≡ length nodes
  count = length-map nodes seen

  pub child-none : ((j : ℕ) → j < length nodes → (place_at nodes j).owner ≡ node → ⊥) → (read : V → List Piece) → IsFirstChild d node (dtc_tree read d) None
  child-none none read =
      root-skipped d.begun (map seen nodes)
      ∙ none-passes is_child (seen no_place) (map seen nodes) (λ j below. let under : j < length nodes = omega (arith, below, count) in ap is_child (seen_at j under) ∙ other-of j (none j under))

  pub child-some : (i : ℕ) → i < length nodes → (place_at nodes i).owner ≡ node → ((j : ℕ) → j < i → (place_at nodes j).owner ≡ node → ⊥) → (read : V → List Piece) → IsFirstChild d node (dtc_tree read d) (Some (suc i))
  child-some i within e before read =
      root-skipped d.begun (map seen nodes)
      ∙ first-passes is_child (seen no_place) (map seen nodes) i (omega (arith, within, count)) (ap is_child (seen_at i within) ∙ child-of i e)
      (λ j under. let below : j < length nodes = omega (arith, under, within) in ap is_child (seen_at j below) ∙ other-of j (before j under))
      ∙ ap Some (seen_at i within)
      ∙ ap₂ (λ q b. Some (record { what = q; stands = b })) (sym (path-step nodes sound.tables.grown i)) (sym (holds-step nodes sound.tables.grown i))

  -- ---- the value of a property
  module _ (name : List ℕ) (read : V → List Piece) where
    abbrev rows : List (Place V)
    rows = rows_in d.properties

    abbrev found : Found
    found = found_in d.properties

    abbrev f : Place V → Row (Definition (List Piece))
    f = property_seen read nodes

    abbrev is : Definition (List Piece) → Bool
    is = is_of p name

    to : (j : ℕ) → is (f (place_at rows j)).what ≡ true → HasKey rows j node name
    to = key-of-row nodes (found_in d.nodes) sound.tables.nodes_table sound.tables.grown sound.tables.node_owners rows found sound.tables.properties_table sound.tables.property_owners node own name

    of : (j : ℕ) → HasKey rows j node name → is (f (place_at rows j)).what ≡ true
    of = row-of-key nodes (found_in d.nodes) sound.tables.nodes_table sound.tables.grown sound.tables.node_owners rows found sound.tables.properties_table sound.tables.property_owners node own name

    row_at : (j : ℕ) → j < length rows → slice_index_or (map f rows) j (f no_place) ≡ f (place_at rows j)
    row_at j below = get_or-map f rows j no_place (f no_place) below

    rows_count : length (map f rows) ≡ length rows
    rows_count = length-map rows f

    meets : (j : ℕ) → j < length rows → is (f (place_at rows j)).what ≡ true → (i : ℕ) × (found node name ≡ Some i) × ((j ≡ i) ⊎ IsBehind rows j i)
    meets j below e =
        let key = to j e in
        let was = sound.tables.properties_table.whole j below in
        (was.0, ap₂ found (sym key.0) (sym key.1) ∙ was.1, was.2)

    pub value-none : found node name ≡ None → IsValueOf read d node name (dtc_tree read d) None
    value-none none =
        none-stands is (f no_place) (map f rows) (λ j below e.
        let under : j < length rows = omega (arith, below, rows_count) in
        let m = meets j under (sym (ap (λ r. is r.what) (row_at j under)) ∙ e) in
        absurd (absent-present (found node name) m.0 none m.1))

    module _ (i : ℕ) (has : found node name ≡ Some i) where
      key : HasKey rows i node name
      key = (sound.tables.properties_table.right node name i has).1

      within : i < length rows
      within = (sound.tables.properties_table.right node name i has).0

      -- another row of the name was removed
      stands-not : (j : ℕ) → j < length rows → (j ≡ i → (f (place_at rows j)).stands ≡ false) → is (f (place_at rows j)).what ≡ true → (f (place_at rows j)).stands ≡ false
      stands-not j below its e = either (meets j below e) where
        either : (i' : ℕ) × (found node name ≡ Some i') × ((j ≡ i') ⊎ IsBehind rows j i') → (f (place_at rows j)).stands ≡ false
        either (i', was, inl same) = its (same ∙ some-is i' i (sym was ∙ has))
        either (i', was, inr behind) = removed-gone nodes (place_at rows j) behind.1

      value-gone : is_made nodes (place_at rows i) ≡ false → IsValueOf read d node name (dtc_tree read d) None
      value-gone gone =
          none-stands is (f no_place) (map f rows) (λ j below e.
          let under : j < length rows = omega (arith, below, rows_count) in
          ap (λ r. r.stands) (row_at j under)
          ∙ stands-not j under (λ same. ap (λ m. is_there nodes (place_at rows m)) same ∙ ap (λ b. b && holds nodes (place_at rows i).owner) gone) (sym (ap (λ r. is r.what) (row_at j under)) ∙ e))

      there : is_made nodes (place_at rows i) ≡ true → is_there nodes (place_at rows i) ≡ true
      there made = ap₂ (λ b m. b && holds nodes m) made key.0 ∙ standing.there

      made-once : is_made nodes (place_at rows i) ≡ true → 1 ≤ (place_at rows i).made
      made-once made =
          let r = place_at rows i in
          let later : nat_le (made_at nodes r.owner) r.made ≡ true = (and_parts (not r.removed) (nat_le (made_at nodes r.owner) r.made) made).1 in
          let first : 1 ≤ made_at nodes node = made-first nodes sound.tables.grown node node (omega arith) standing.there in
          omega (arith, leb-le (made_at nodes r.owner) r.made later, ap (made_at nodes) key.0, first)

      value-here : is_made nodes (place_at rows i) ≡ true → IsValueOf read d node name (dtc_tree read d) (place_at rows i).value
      value-here made = by_value (place_at rows i).value refl (sound.valued i (made-once made)) where
        its : find is (what_stands (map f rows)) ≡ Some (f (place_at rows i)).what
        its =
            first-stands is (f no_place) (map f rows) i (omega (arith, within, rows_count)) (ap (λ r. is r.what) (row_at i within) ∙ of i key) (ap (λ r. r.stands) (row_at i within) ∙ there made)
            (λ j under e.
            let below : j < length rows = omega (arith, under, within) in
            ap (λ r. r.stands) (row_at j below) ∙ stands-not j below (λ same. absurd (omega (arith, same, under))) (sym (ap (λ r. is r.what) (row_at j below)) ∙ e))
            ∙ ap (λ r. Some r.what) (row_at i within)

        by_value : (o : Option V) → (place_at rows i).value ≡ o → IsSome o → IsValueOf read d node name (dtc_tree read d) o
        by_value None e some = absurd (true≢false (sym some))
        by_value (Some v) e some =
            its ∙ ap₂ (λ m k. Some (definition (path_of nodes m) k (value_read read (place_at rows i).value))) key.0 key.1 ∙ ap (λ o. Some (definition p name (value_read read o))) e

      pub value-by : IsValueOf read d node name (dtc_tree read d) (value_made nodes (place_at rows i))
      value-by = by_made (is_made nodes (place_at rows i)) refl where
        by_made : (b : Bool) → is_made nodes (place_at rows i) ≡ b → IsValueOf read d node name (dtc_tree read d) (if b then (place_at rows i).value else None)
        by_made true e = value-here e
        by_made false e = value-gone e
