-- The labels that stand are put as properties of their nodes, the last first, and read in preorder.
use Rattle.std.proofs.Common.{◌≡◌, ◌⊎◌, inl, inr, ℕ, ◌+◌, ◌<◌, ◌≤◌, All, Bool, true, false, ◌||◌, ◌&&◌, List, [], ◌∷◌, ◌++◌, drop, length, map, reverse, Some, if◌then◌else◌, refl, sym, ap, ap₂, ◌∙◌, subst, append-nil, true≢false, arith}
use Rattle.std.specs.Str.{bytes_eq}
use Rattle.std.specs.List.{filter, flat_map, list_any}
use Rattle.std.proofs.lemmas.Bool.{and_parts}
use Rattle.std.proofs.lemmas.List.{drop_all, drop_more, map-append, reverse-append}
use Rattle.std.proofs.lemmas.List.Elements.{All-append, All-cons, All-head, All-nil, All-tail}
use Rattle.std.proofs.lemmas.Slice.Eq.{bytes_eq-Decides}
use Rattle.dt_source.specs.TreeMeaning.Paths.{Path, same_path}
use Rattle.dt_source.specs.TreeMeaning.Edits.{Definition, Label, State, definition, is_of, put, with_property}
use Rattle.dt_source.specs.TreeMeaning.Places.{Row, what_stands}
use Rattle.dt_source.specs.TreeMeaning.References.{held, preorder}
use Rattle.dt_live.specs.declared.preorder.properties.NodeProperty.{NodeProperty}
use Rattle.dt_live.specs.Preorder.{AreInOrder, definition_of}
use Rattle.dt_live.specs.Rows.{Found, IsLiveTree, state_of}
use Rattle.dt_live.specs.Rows as live
use Rattle.dt_live.proofs.NodeRows.{some-is}
use Rattle.dt_live.proofs.PathTests.{same-is}
use Rattle.dt_live.specs.declared.placed.place.Place.{Place}
use Rattle.dt_live.specs.declared.placed.placed_tree.PlacedTree.{PlacedTree}
use Rattle.dt_live.specs.declared.placed.shown.Shown.{Shown}
use Rattle.dt_live.specs.Placed.Rows.{holds, is_made, is_there, no_place, path_of, place_at}
use Rattle.dt_live.specs.Placed.Tables.{IsBehind, found_in, rows_in}
use Rattle.dt_live.specs.Placed.PlacedTrees.{IsPlacedTree, label_seen}
use Rattle.dt_live.specs.Placed.Shown.{AreShown, IsShownAt}
use Rattle.dt_live.specs.Placed.Standing.{AreOrdered, HasLabelRows, IsOfRow, IsWornRow, label_in, label_of}
use Rattle.dt_live.proofs.PlacedLemmas.Chosen.{numbered-same}
use Rattle.dt_live.proofs.PlacedLemmas.FirstHeld.{put-all}
use Rattle.dt_live.proofs.PlacedLemmas.Owners.{one-owner}
use Rattle.dt_live.proofs.PlacedLemmas.PropertiesShown.{put-new, what-more}
use Rattle.dt_live.proofs.PlacedLemmas.PropertyEdits.{removed-gone}

and-false : (b : Bool) → (b && false) ≡ false
and-false true = refl
and-false false = refl

-- ---- none of the properties so far has a name
none-of : {V : Type 0} (P : Definition V → Type 0) (p : Path) (n : List ℕ) (es : List (Definition V)) → All P es → ((e : Definition V) → P e → is_of p n e ≡ true → ⊥) → list_any (is_of p n) es ≡ false
none-of P p n [] all apart = refl
none-of P p n (e ∷ es) all apart =
    ap₂ (λ a b. a || b) (by_test (is_of p n e) refl) (none-of P p n es (All-tail P e es all) apart) where
      by_test : (b : Bool) → is_of p n e ≡ b → b ≡ false
      by_test true is = absurd (apart e (All-head P e es all) is)
      by_test false is = refl

module _ {V : Type 0} (d : PlacedTree V) (sound : IsPlacedTree d) (row : ℕ) (within : row < length (rows_in d.labels)) where
  abbrev nodes : List (Place ℕ)
  nodes = rows_in d.nodes

  abbrev rows : List (Place ℕ)
  rows = rows_in d.labels

  abbrev seen : Place ℕ → Row Label
  seen = label_seen nodes

  abbrev r : Place ℕ
  r = place_at rows row

  seen-more : what_stands (map seen (reverse (drop row rows))) ≡ what_stands (map seen (reverse (drop (row + 1) rows))) ++ (if is_there nodes r then (seen r).what ∷ [] else [])
  seen-more =
      ap (λ xs. what_stands (map seen (reverse xs))) (drop_more rows row no_place within)
      ∙ ap (λ xs. what_stands (map seen xs)) (reverse-append (r ∷ []) (drop (row + 1) rows))
      ∙ ap what_stands (map-append seen (reverse (drop (row + 1) rows)) (r ∷ []))
      ∙ what-more (map seen (reverse (drop (row + 1) rows))) (seen r)

  pub label-skipped : (s : Shown ℕ) → HasLabelRows d (row + 1) s → is_there nodes r ≡ false → HasLabelRows d row s
  label-skipped s has away = record {
    shown = has.shown;
    right = has.right;
    behind = λ i e below. omega (arith, has.behind i e below);
    listed = has.listed ∙ sym (seen-more ∙ ap (λ b. what_stands (map seen (reverse (drop (row + 1) rows))) ++ (if b then (seen r).what ∷ [] else [])) away ∙ append-nil (what_stands (map seen (reverse (drop (row + 1) rows)))));
  }

  pub owner-away : holds nodes r.owner ≡ false → is_there nodes r ≡ false
  owner-away gone = ap (λ b. is_made nodes r && b) gone ∙ and-false (is_made nodes r)

  pub not-made : is_made nodes r ≡ false → is_there nodes r ≡ false
  not-made gone = ap (λ b. b && holds nodes r.owner) gone

  pub row-there : is_made nodes r ≡ true → holds nodes r.owner ≡ true → is_there nodes r ≡ true
  row-there made up = ap₂ (λ a b. a && b) made up

  -- ---- it goes behind the others
  abbrev IsLater : Definition ℕ → Type 0
  IsLater e = IsOfRow d e × (row + 1 ≤ e.value)

  counting : (i : ℕ) → i < length rows → is_there nodes (place_at rows i) ≡ true → found_in d.labels (place_at rows i).owner (place_at rows i).name.now ≡ Some i
  counting i below there = by_whole (sound.tables.labels_table.whole i below) where
    by_whole : (j : ℕ) × (found_in d.labels (place_at rows i).owner (place_at rows i).name.now ≡ Some j) × ((i ≡ j) ⊎ IsBehind rows i j) → found_in d.labels (place_at rows i).owner (place_at rows i).name.now ≡ Some i
    by_whole (j, was, inl same) = was ∙ ap Some (sym same)
    by_whole (j, was, inr behind) = absurd (true≢false (sym there ∙ removed-gone nodes (place_at rows i) behind.1))

  module _ (there : is_there nodes r ≡ true) where
    apart : (e : Definition ℕ) → IsLater e → is_of (path_of nodes r.owner) r.name.now e ≡ true → ⊥
    apart e later is =
        let its = place_at rows e.value in
        let parts = and_parts (same_path (path_of nodes r.owner) e.path) (bytes_eq r.name.now e.name) is in
        let path : path_of nodes r.owner ≡ path_of nodes its.owner = same-is (path_of nodes r.owner) e.path parts.0 ∙ sym (ap (λ (l : Label). l.path) later.0.1) in
        let name : r.name.now ≡ its.name.now = (bytes_eq-Decides r.name.now e.name).0 parts.1 ∙ sym (ap (λ (l : Label). l.label) later.0.1) in
        let owner : r.owner ≡ its.owner = one-owner nodes (found_in d.nodes) sound.tables.nodes_table sound.tables.grown sound.tables.node_owners r.owner r.owner its.owner (omega arith) (sound.tables.label_owners row) (sound.tables.label_owners e.value) path in
        let same : row ≡ e.value = some-is row e.value (sym (counting row within there) ∙ ap₂ (found_in d.labels) owner name ∙ counting e.value later.0.0.0 later.0.0.1) in
        omega (arith, same, later.1)

    pub label-put : (old new : Shown ℕ) (m : ℕ) → HasLabelRows d (row + 1) old → IsShownAt nodes old.live r.owner m → IsLiveTree new.live → new.live.nodes.items ≡ old.live.nodes.items → new.numbers.items ≡ old.numbers.items
        → state_of new.live ≡ with_property (live.node_path old.live m) r.name.now row (state_of old.live) → HasLabelRows d row new
    label-put old new m has at live_sound same numbers state =
        let p = path_of nodes r.owner in
        let es = (state_of old.live).properties in
        let none : list_any (is_of p r.name.now) es ≡ false = none-of IsLater p r.name.now es (λ i e below. (has.right i e below, has.behind i e below)) apart in
        let put_is : (state_of new.live).properties ≡ put p r.name.now row es = ap (λ (x : State ℕ). x.properties) state ∙ ap (λ q. put q r.name.now row es) at.path in
        let is : (state_of new.live).properties ≡ es ++ definition p r.name.now row ∷ [] = put_is ∙ put-new p r.name.now row es none in
        record {
          shown = record {
            numbered = numbered-same nodes (length nodes) old new has.shown.numbered live_sound same numbers;
            nodes_shown = ap (λ (x : State ℕ). x.nodes) state ∙ has.shown.nodes_shown;
          };
          right = subst (All (IsOfRow d)) (sym put_is) (put-all (IsOfRow d) p r.name.now row ((within, there), refl) es has.right);
          behind = subst (All (λ (e : Definition ℕ). row ≤ e.value)) (sym put_is) (put-all (λ (e : Definition ℕ). row ≤ e.value) p r.name.now row (omega arith) es (λ i e below. omega (arith, has.behind i e below)));
          listed =
              ap (map label_in) is
              ∙ map-append label_in es (definition p r.name.now row ∷ [])
              ∙ ap (λ xs. xs ++ (seen r).what ∷ []) has.listed
              ∙ sym (seen-more ∙ ap (λ b. what_stands (map seen (reverse (drop (row + 1) rows))) ++ (if b then (seen r).what ∷ [] else [])) there);
        }

-- ---- no label so far
pub none-put : {V : Type 0} (d : PlacedTree V) (n : ℕ) (s : Shown ℕ) → length (rows_in d.labels) ≤ n → AreShown (rows_in d.nodes) (length (rows_in d.nodes)) s → HasLabelRows d n s
none-put d n s all shown = record {
  shown = record { numbered = shown.numbered; nodes_shown = ap (λ (x : State ℕ). x.nodes) shown.state };
  right = subst (λ (x : State ℕ). All (IsOfRow d) x.properties) (sym shown.state) (All-nil (IsOfRow d));
  behind = subst (λ (x : State ℕ). All (λ (e : Definition ℕ). n ≤ e.value) x.properties) (sym shown.state) (All-nil (λ (e : Definition ℕ). n ≤ e.value));
  listed =
      ap (λ (x : State ℕ). map label_in x.properties) shown.state
      ∙ sym (ap (λ xs. what_stands (map (label_seen (rows_in d.nodes)) (reverse xs))) (drop_all n (rows_in d.labels) all));
}

-- ---- in preorder
stands-reverse : {X Y : Type 0} (f : X → Row Y) (xs : List X) → what_stands (map f (reverse xs)) ≡ reverse (what_stands (map f xs))
stands-reverse f [] = refl
stands-reverse {Y = Y} f (x ∷ xs) =
    ap (λ ys. what_stands (map f ys)) (reverse-append (x ∷ []) xs)
    ∙ ap what_stands (map-append f (reverse xs) (x ∷ []))
    ∙ what-more (map f (reverse xs)) (f x)
    ∙ ap (λ ys. ys ++ (if (f x).stands then (f x).what ∷ [] else [])) (stands-reverse f xs)
    ∙ by_test (f x).stands where
      by_test : (b : Bool) → reverse (what_stands (map f xs)) ++ (if b then (f x).what ∷ [] else []) ≡ reverse (map (λ (y : Row Y). y.what) (if b then f x ∷ filter (λ y. y.stands) (map f xs) else filter (λ y. y.stands) (map f xs)))
      by_test true = sym (reverse-append ((f x).what ∷ []) (what_stands (map f xs)))
      by_test false = append-nil (reverse (what_stands (map f xs)))

module _ {V : Type 0} (d : PlacedTree V) where
  abbrev row_in : Definition ℕ → ℕ
  row_in e = e.value

  held-labels : (p : Path) (es : List (Definition ℕ)) → All (IsOfRow d) es → map (label_of d) (map row_in (held es p)) ≡ filter (λ l. same_path p l.path) (map label_in es)
  held-labels p [] all = refl
  held-labels p (e ∷ es) all = by_test (same_path p e.path) (held-labels p es (All-tail (IsOfRow d) e es all)) where
    by_test : (b : Bool) → map (label_of d) (map row_in (held es p)) ≡ filter (λ l. same_path p l.path) (map label_in es)
        → map (label_of d) (map row_in (if b then e ∷ held es p else held es p)) ≡ (if b then label_in e ∷ filter (λ l. same_path p l.path) (map label_in es) else filter (λ l. same_path p l.path) (map label_in es))
    by_test true rest = ap₂ (λ l ls. l ∷ ls) (All-head (IsOfRow d) e es all).1 rest
    by_test false rest = rest

  in-turn : (es : List (Definition ℕ)) → All (IsOfRow d) es → (ps : List Path) → map (label_of d) (map row_in (flat_map (held es) ps)) ≡ flat_map (λ p. filter (λ l. same_path p l.path) (map label_in es)) ps
  in-turn es all [] = refl
  in-turn es all (p ∷ ps) =
      ap (map (label_of d)) (map-append row_in (held es p) (flat_map (held es) ps))
      ∙ map-append (label_of d) (map row_in (held es p)) (map row_in (flat_map (held es) ps))
      ∙ ap₂ (λ xs ys. xs ++ ys) (held-labels p es all) (in-turn es all ps)

  worn-held : (p : Path) (es : List (Definition ℕ)) → All (IsOfRow d) es → All (IsWornRow d) (map row_in (held es p))
  worn-held p [] all = All-nil (IsWornRow d)
  worn-held p (e ∷ es) all = by_test (same_path p e.path) (worn-held p es (All-tail (IsOfRow d) e es all)) where
    by_test : (b : Bool) → All (IsWornRow d) (map row_in (held es p)) → All (IsWornRow d) (map row_in (if b then e ∷ held es p else held es p))
    by_test true rest = All-cons (IsWornRow d) e.value (map row_in (held es p)) (All-head (IsOfRow d) e es all).0 rest
    by_test false rest = rest

  worn-all : (es : List (Definition ℕ)) → All (IsOfRow d) es → (ps : List Path) → All (IsWornRow d) (map row_in (flat_map (held es) ps))
  worn-all es all [] = All-nil (IsWornRow d)
  worn-all es all (p ∷ ps) =
      subst (All (IsWornRow d)) (sym (map-append row_in (held es p) (flat_map (held es) ps)))
      (All-append (IsWornRow d) (map row_in (held es p)) (map row_in (flat_map (held es) ps)) (worn-held p es all) (worn-all es all ps))

  values-of : (s : Shown ℕ) (xs : List (NodeProperty ℕ)) → map (λ x. x.value) xs ≡ map row_in (map (definition_of s.live) xs)
  values-of s [] = refl
  values-of s (x ∷ xs) = ap (λ ys. x.value ∷ ys) (values-of s xs)

  pub ordered : (s : Shown ℕ) (xs : List (NodeProperty ℕ)) → HasLabelRows d 0 s → AreInOrder s.live xs → AreOrdered d (map (λ x. x.value) xs)
  ordered s xs has order =
      let es = (state_of s.live).properties in
      let ps = preorder (state_of s.live).nodes in
      let is : map (λ x. x.value) xs ≡ map row_in (flat_map (held es) ps) = values-of s xs ∙ ap (map row_in) order in
      record {
        worn = subst (All (IsWornRow d)) (sym is) (worn-all es has.right ps);
        labels =
            ap (map (label_of d)) is
            ∙ in-turn es has.right ps
            ∙ ap₂ (λ ls ns. flat_map (λ p. filter (λ l. same_path p l.path) ls) (preorder ns)) (has.listed ∙ stands-reverse (label_seen (rows_in d.nodes)) (rows_in d.labels)) has.shown.nodes_shown;
      }
