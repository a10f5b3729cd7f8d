-- The properties that stand are put one behind the other.
use Rattle.std.proofs.Common.{◌≡◌, ◌⊎◌, inl, inr, ℕ, zero, suc, ◌+◌, ◌<◌, ◌≤◌, Bool, true, false, ◌||◌, not, ◌&&◌, List, [], ◌∷◌, ◌++◌, length, map, take, Some, None, IsSome, if◌then◌else◌, nat_le, refl, sym, ap, ap₂, ◌∙◌, subst, append-nil, true≢false, arith}
use Rattle.std.specs.Prelude.{slice_index_or}
use Rattle.std.specs.List.{filter, list_any}
use Rattle.std.proofs.lemmas.Bool.{and_parts}
use Rattle.std.proofs.lemmas.List.{get_or-map, get_or-take, map-append, take_more}
use Rattle.std.proofs.lemmas.List.Elements.{filter-append}
use Rattle.dt_source.specs.TreeMeaning.Paths.{Path}
use Rattle.dt_source.specs.TreeMeaning.Syntax.{Piece}
use Rattle.dt_source.specs.TreeMeaning.Edits.{Definition, State, definition, is_of, put, with_property}
use Rattle.dt_source.specs.TreeMeaning.Places.{Row, what_stands}
use Rattle.dt_live.specs.Rows.{Found, IsLiveTree, state_of}
use Rattle.dt_live.specs.Rows as live
use Rattle.dt_live.proofs.NodeRows.{absent-present, some-is}
use Rattle.dt_live.specs.declared.placed.place.Place.{Place}
use Rattle.dt_live.specs.declared.placed.placed_tree.PlacedTree.{PlacedTree}
use Rattle.dt_live.specs.declared.placed.shown.Shown.{Shown}
use Rattle.dt_live.specs.Placed.Rows.{holds, is_made, is_there, made_at, no_place, path_of, place_at}
use Rattle.dt_live.specs.Placed.Tables.{HasKey, IsBehind, found_in, rows_in}
use Rattle.dt_live.specs.Placed.PlacedTrees.{IsPlacedTree, property_seen, value_read}
use Rattle.dt_live.specs.Placed.Shown.{IsShownAt}
use Rattle.dt_live.specs.Placed.References.{value_made}
use Rattle.dt_live.specs.Placed.Standing.{HasProperties, read_with}
use Rattle.dt_live.proofs.PlacedLemmas.Chosen.{numbered-same}
use Rattle.dt_live.proofs.PlacedLemmas.LookedUp.{leb-le}
use Rattle.dt_live.proofs.PlacedLemmas.Owners.{key-of-row}
use Rattle.dt_live.proofs.PlacedLemmas.PlaceClimbs.{made-first}
use Rattle.dt_live.proofs.PlacedLemmas.PlaceLists.{stand-none}
use Rattle.dt_live.proofs.PlacedLemmas.PropertyEdits.{removed-gone}

-- ---- lists
pub what-more : {X : Type 0} (xs : List (Row X)) (r : Row X) → what_stands (xs ++ r ∷ []) ≡ what_stands xs ++ (if r.stands then r.what ∷ [] else [])
what-more {X = X} xs r =
    ap (map (λ x. x.what)) (filter-append (λ x. x.stands) xs (r ∷ []))
    ∙ map-append (λ x. x.what) (filter (λ x. x.stands) xs) (filter (λ x. x.stands) (r ∷ []))
    ∙ ap (λ ys. what_stands xs ++ ys) (by_test r.stands) where
      by_test : (b : Bool) → map (λ (x : Row X). x.what) (if b then r ∷ [] else []) ≡ (if b then r.what ∷ [] else [])
      by_test true = refl
      by_test false = refl

pub put-new : {V : Type 0} (p : Path) (n : List ℕ) (v : V) (es : List (Definition V)) → list_any (is_of p n) es ≡ false → put p n v es ≡ es ++ definition p n v ∷ []
put-new p n v [] none = refl
put-new p n v (e ∷ es) none = by_test (is_of p n e) none (put-new p n v es) where
  by_test : (b : Bool) → (b || list_any (is_of p n) es) ≡ false → (list_any (is_of p n) es ≡ false → put p n v es ≡ es ++ definition p n v ∷ [])
      → (if b then definition p n v ∷ es else e ∷ put p n v es) ≡ e ∷ es ++ definition p n v ∷ []
  by_test true none rest = absurd (true≢false none)
  by_test false none rest = ap (λ ys. e ∷ ys) (rest none)

pub any-read : {V : Type 0} (read : V → List Piece) (p : Path) (n : List ℕ) (es : List (Definition V)) → list_any (is_of p n) (read_with read es) ≡ list_any (is_of p n) es
any-read read p n [] = refl
any-read read p n (e ∷ es) = ap (λ b. is_of p n e || b) (any-read read p n es)

-- ---- one row
module _ {V : Type 0} (d : PlacedTree V) (sound : IsPlacedTree d) (row : ℕ) (within : row < length (rows_in d.properties)) where
  abbrev nodes : List (Place ℕ)
  nodes = rows_in d.nodes

  abbrev rows : List (Place V)
  rows = rows_in d.properties

  abbrev r : Place V
  r = place_at rows row

  seen-more : (read : V → List Piece) → what_stands (map (property_seen read nodes) (take (row + 1) rows)) ≡ what_stands (map (property_seen read nodes) (take row rows)) ++ (if is_there nodes r then (property_seen read nodes r).what ∷ [] else [])
  seen-more read =
      ap (λ xs. what_stands (map (property_seen read nodes) xs)) (take_more rows row no_place within)
      ∙ ap what_stands (map-append (property_seen read nodes) (take row rows) (r ∷ []))
      ∙ what-more (map (property_seen read nodes) (take row rows)) (property_seen read nodes r)

  pub property-skipped : (s : Shown V) → HasProperties d row s → is_there nodes r ≡ false → HasProperties d (row + 1) s
  property-skipped s has away = record {
    shown = has.shown;
    properties_shown = λ read.
        has.properties_shown read
        ∙ sym (seen-more read ∙ ap (λ b. what_stands (map (property_seen read nodes) (take row rows)) ++ (if b then (property_seen read nodes r).what ∷ [] else [])) away ∙ append-nil (what_stands (map (property_seen read nodes) (take row rows))));
    unlabelled = has.unlabelled;
  }

  -- none before it has its name
  module _ (there : is_there nodes r ≡ true) where
    kept : r.removed ≡ true → ⊥
    kept gone = true≢false (sym there ∙ removed-gone nodes r gone)

    itself : (i : ℕ) × (found_in d.properties r.owner r.name.now ≡ Some i) × ((row ≡ i) ⊎ IsBehind rows row i) → found_in d.properties r.owner r.name.now ≡ Some row
    itself (i, was, inl same) = was ∙ ap Some (sym same)
    itself (i, was, inr behind) = absurd (kept behind.1)

    before-gone : (j : ℕ) → j < row → HasKey rows j r.owner r.name.now → (place_at rows j).removed ≡ true
    before-gone j under key = by_whole (sound.tables.properties_table.whole j (omega (arith, under, within))) where
      by_whole : (i : ℕ) × (found_in d.properties (place_at rows j).owner (place_at rows j).name.now ≡ Some i) × ((j ≡ i) ⊎ IsBehind rows j i) → (place_at rows j).removed ≡ true
      by_whole (i, was, inl same) =
          let is : i ≡ row = some-is i row (sym was ∙ ap₂ (found_in d.properties) key.0 key.1 ∙ itself (sound.tables.properties_table.whole row within)) in
          absurd (omega (arith, under, same, is))
      by_whole (i, was, inr behind) = behind.1

    pub not-before : (read : V → List Piece) → list_any (is_of (path_of nodes r.owner) r.name.now) (what_stands (map (property_seen read nodes) (take row rows))) ≡ false
    not-before read =
        let f = property_seen read nodes in
        let is = is_of (path_of nodes r.owner) r.name.now in
        stand-none is (f no_place) (map f (take row rows)) (λ j below e.
        let long : length (take row rows) ≤ row = omega (arith, length-take' row rows) in
        let under : j < length (take row rows) = omega (arith, below, count (take row rows)) in
        let at : slice_index_or (map f (take row rows)) j (f no_place) ≡ f (place_at rows j) =
        get_or-map f (take row rows) j no_place (f no_place) under ∙ ap f (get_or-take row rows j no_place (omega (arith, under, long))) in
        let key = key-of-row nodes (found_in d.nodes) sound.tables.nodes_table sound.tables.grown sound.tables.node_owners rows (found_in d.properties) sound.tables.properties_table sound.tables.property_owners r.owner (sound.tables.property_owners row) r.name.now j (sym (ap (λ (x : Row (Definition (List Piece))). is x.what) at) ∙ e) in
        ap (λ (x : Row (Definition (List Piece))). x.stands) at ∙ removed-gone nodes (place_at rows j) (before-gone j (omega (arith, under, long)) key)) where
          count : (xs : List (Place V)) → length (map (property_seen read nodes) xs) ≡ length xs
          count [] = refl
          count (x ∷ xs) = ap suc (count xs)

          length-take' : (n : ℕ) (xs : List (Place V)) → length (take n xs) ≤ n
          length-take' zero xs = omega arith
          length-take' (suc n) [] = omega arith
          length-take' (suc n) (x ∷ xs) = omega (arith, length-take' n xs)

    pub property-put : (old new : Shown V) (m : ℕ) (v : V) → HasProperties d row old → r.value ≡ Some v → IsShownAt nodes old.live r.owner m → IsLiveTree new.live
        → new.live.nodes.items ≡ old.live.nodes.items → new.numbers.items ≡ old.numbers.items → state_of new.live ≡ with_property (live.node_path old.live m) r.name.now v (state_of old.live) → HasProperties d (row + 1) new
    property-put old new m v has value at live_sound same numbers state =
        let p = path_of nodes r.owner in
        let es = (state_of old.live).properties in
        let none : list_any (is_of p r.name.now) es ≡ false =
        sym (any-read (λ _. []) p r.name.now es) ∙ ap (list_any (is_of p r.name.now)) (has.properties_shown (λ _. [])) ∙ not-before (λ _. []) in
        let is : (state_of new.live).properties ≡ es ++ definition p r.name.now v ∷ [] =
        ap (λ (x : State V). x.properties) state ∙ ap (λ q. put q r.name.now v es) at.path ∙ put-new p r.name.now v es none in
        record {
          shown = record {
            numbered = numbered-same nodes (length nodes) old new has.shown.numbered live_sound same numbers;
            nodes_shown = ap (λ (x : State V). x.nodes) state ∙ has.shown.nodes_shown;
          };
          properties_shown = λ read.
              ap (read_with read) is
              ∙ map-append (λ (e : Definition V). definition e.path e.name (read e.value)) es (definition p r.name.now v ∷ [])
              ∙ ap₂ (λ xs o. xs ++ definition p r.name.now (value_read read o) ∷ []) (has.properties_shown read) (sym value)
              ∙ sym (seen-more read ∙ ap (λ b. what_stands (map (property_seen read nodes) (take row rows)) ++ (if b then (property_seen read nodes r).what ∷ [] else [])) there);
          unlabelled = ap (λ (x : State V). x.labels) state ∙ has.unlabelled;
        }

  -- ---- what its value says
  pub value-some : (v : V) → value_made nodes r ≡ Some v → (is_made nodes r ≡ true) × (r.value ≡ Some v)
  value-some v e = by_test (is_made nodes r) refl e where
    by_test : (b : Bool) → is_made nodes r ≡ b → (if b then r.value else None) ≡ Some v → (is_made nodes r ≡ true) × (r.value ≡ Some v)
    by_test true made e = (made, e)
    by_test false made e = absurd (absent-present None v refl e)

  pub row-there : is_made nodes r ≡ true → holds nodes r.owner ≡ true → is_there nodes r ≡ true
  row-there made up = ap₂ (λ a b. a && b) made up

  pub owner-away : holds nodes r.owner ≡ false → is_there nodes r ≡ false
  owner-away gone = ap (λ b. is_made nodes r && b) gone ∙ and-false (is_made nodes r) where
    and-false : (b : Bool) → (b && false) ≡ false
    and-false true = refl
    and-false false = refl

  made-once : is_there nodes r ≡ true → 1 ≤ r.made
  made-once there =
      let parts = and_parts (is_made nodes r) (holds nodes r.owner) there in
      let later : nat_le (made_at nodes r.owner) r.made ≡ true = (and_parts (not r.removed) (nat_le (made_at nodes r.owner) r.made) parts.0).1 in
      omega (arith, leb-le (made_at nodes r.owner) r.made later, made-first nodes sound.tables.grown r.owner r.owner (omega arith) parts.1)

  pub value-away : value_made nodes r ≡ None → is_there nodes r ≡ false
  value-away none = by_test (is_there nodes r) refl where
    no-value : (there : is_there nodes r ≡ true) → r.value ≡ None
    no-value there = sym (ap (λ b. if b then r.value else None) (and_parts (is_made nodes r) (holds nodes r.owner) there).0) ∙ none

    by_test : (b : Bool) → is_there nodes r ≡ b → b ≡ false
    by_test true there = absurd (true≢false (sym (subst IsSome (no-value there) (sound.valued row (made-once there)))))
    by_test false there = refl
