-- A label is given, a node is marked, and the root begins.
use Rattle.std.proofs.Common.{◌≡◌, ℕ, ◌<◌, ◌≤◌, Bool, true, false, not, ◌&&◌, ◌||◌, inl, inr, nat_le, List, [], ◌∷◌, ◌++◌, length, map, slice_set, reverse, Option, Some, None, Bor, if◌then◌else◌, refl, sym, ap, ap₂, ◌∙◌, subst, arith}
use Rattle.std.specs.Prelude.{slice_index_or}
use Rattle.std.specs.Str.{bytes_eq}
use Rattle.std.proofs.lemmas.Bool.{and_from, and_parts, cases_eq, cases_lt, le-leb}
use Rattle.std.proofs.lemmas.List.{get_or_append_left, get_or_past, get_or_push, length_push, map-set, map_push, reverse-append}
use Rattle.dt_source.specs.TreeMeaning.Paths.{Path, same_path}
use Rattle.dt_source.specs.TreeMeaning.Syntax.{Piece}
use Rattle.dt_source.specs.TreeMeaning.Edits.{Label, labelled_at}
use Rattle.dt_source.specs.TreeMeaning.Places.{Row, row, has_place}
use Rattle.dt_source.specs.TreeMeaning.DtcEdits.{DtcTree, is_label_at, node_has_place, with_labels_at, with_mark}
use Rattle.dt_source.specs.TreeMeaning.DtcStatements.{with_root}
use Rattle.dt_live.specs.Index.{is_key}
use Rattle.dt_live.specs.Rows.{Found}
use Rattle.dt_live.specs.declared.placed.place.Place.{Place}
use Rattle.dt_live.specs.declared.placed.placed_tree.PlacedTree.{PlacedTree}
use Rattle.dt_live.specs.declared.placed.table.Entry.TheVariants.{New}
use Rattle.dt_live.specs.declared.placed.table.Table.{Table}
use Rattle.dt_live.specs.Placed.Rows.{holds, made_at, path_of, place_at}
use Rattle.dt_live.specs.Placed.Tables.{Enters, HasKey, IsTable, found_in, rows_in}
use Rattle.dt_live.specs.Placed.PlacedTrees.{AreSound, IsOwner, IsPlacedTree, IsStanding, dtc_tree, label_seen, node_path, node_seen, root_rows}
use Rattle.dt_live.proofs.PlacedLemmas.Owners.{key-of-row, row-of-key}
use Rattle.dt_live.proofs.PlacedLemmas.PropertyEdits.{early-node, own, removed-gone}
use Rattle.dt_live.proofs.PlacedLemmas.RowTables.{each-pushed, each-set, pushed, table-new, table-set}
use Rattle.dt_live.proofs.PlacedLemmas.SeenRows.{seen-put, seen-put-none}

-- the table of labels in place of another
with-labels : {N P L : Type 0} (nodes : List (Place N)) (fn : Found) (ps : List (Place P)) (fp : Found) (ls : List (Place L)) (fl : Found) (clock : ℕ) → AreSound nodes fn ps fp ls fl clock
    → (qs : List (Place L)) (fq : Found) → IsTable qs fq → ((k : ℕ) → IsOwner nodes fn (place_at qs k).owner) → ((k : ℕ) → (place_at qs k).made ≤ clock) → AreSound nodes fn ps fp qs fq clock
with-labels nodes fn ps fp ls fl clock sound qs fq table owners early = record {
  nodes_table = sound.nodes_table;
  properties_table = sound.properties_table;
  labels_table = table;
  grown = sound.grown;
  node_owners = sound.node_owners;
  property_owners = sound.property_owners;
  label_owners = owners;
  early = sound.early;
  early_properties = sound.early_properties;
  early_labels = early;
  ticking = sound.ticking;
}

module _ {V : Type 0} (d : PlacedTree V) (sound : IsPlacedTree d) (node : ℕ) (standing : IsStanding d node) (label : Bor (List ℕ)) where
  abbrev nodes : List (Place ℕ)
  nodes = rows_in d.nodes

  abbrev rows : List (Place ℕ)
  rows = rows_in d.labels

  abbrev found : Found
  found = found_in d.labels

  mine : IsOwner nodes (found_in d.nodes) node
  mine = own d sound node standing label

  abbrev given : Option ℕ → Place ℕ
  given value = record { owner = node; name = label; value = value; made = d.clock; removed = false; again = false }

  abbrev Sound : List (Place ℕ) → Found → Type 0
  Sound rs fs = AreSound nodes (found_in d.nodes) (rows_in d.properties) (found_in d.properties) rs fs d.clock

  with-rows : (rs : List (Place ℕ)) (fs : Found) → IsTable rs fs → ((k : ℕ) → IsOwner nodes (found_in d.nodes) (place_at rs k).owner) → ((k : ℕ) → (place_at rs k).made ≤ d.clock) → Sound rs fs
  with-rows = with-labels nodes (found_in d.nodes) (rows_in d.properties) (found_in d.properties) rows found d.clock sound.tables

  none-owner : IsOwner nodes (found_in d.nodes) 0
  none-owner k e = absurd (omega (arith, e))

  -- ---- soundness
  pub sound-given : (value : Option ℕ) (i : ℕ) (new : Table ℕ) → Enters (given value) d.labels new (New i) → Sound (rows_in new) (found_in new)
  sound-given value i new e =
      subst (λ (rs : List (Place ℕ)). Sound rs (found_in new)) (sym e.2)
      (with-rows (pushed rows (given value)) (found_in new)
      (table-new rows (given value) found (found_in new) sound.tables.labels_table e.0 refl (λ n k. e.3 n k ∙ ap (λ m. if is_key node label.now n k then Some m else found n k) e.1))
      (each-pushed rows (given value) (λ x. IsOwner nodes (found_in d.nodes) x.owner) sound.tables.label_owners mine none-owner)
      (each-pushed rows (given value) (λ x. x.made ≤ d.clock) sound.tables.early_labels (omega arith) (omega arith)))

  pub single-given : (value : Option ℕ) (i : ℕ) (new : Table ℕ) → Enters (given value) d.labels new (New i) → (k : ℕ) → (place_at (rows_in new) k).again ≡ false
  single-given value i new e k =
      ap (λ rs. (place_at rs k).again) e.2 ∙ each-pushed rows (given value) (λ x. x.again ≡ false) sound.single refl refl k

  module _ (i : ℕ) (has : found node label.now ≡ Some i) where
    pub within : i < length rows
    within = (sound.tables.labels_table.right node label.now i has).0

    key : HasKey rows i node label.now
    key = (sound.tables.labels_table.right node label.now i has).1

    pub sound-set : (r : Place ℕ) (rows' : List (Place ℕ)) (found' : Found) → found' ≡ found → r.owner ≡ (place_at rows i).owner → r.name.now ≡ (place_at rows i).name.now → r.again ≡ (place_at rows i).again → r.made ≤ d.clock
        → rows' ≡ slice_set rows i r → Sound rows' found'
    sound-set r rows' found' same owner named again early is =
        subst (λ (fs : Found). Sound rows' fs) (sym same)
        (subst (λ (rs : List (Place ℕ)). Sound rs found) (sym is)
        (with-rows (slice_set rows i r) found (table-set rows i r within owner named found sound.tables.labels_table (ap₂ found key.0 key.1 ∙ has) again)
        (each-set rows i r within (λ x. IsOwner nodes (found_in d.nodes) x.owner) sound.tables.label_owners (subst (λ (n : ℕ). IsOwner nodes (found_in d.nodes) n) (sym (owner ∙ key.0)) mine))
        (each-set rows i r within (λ x. x.made ≤ d.clock) sound.tables.early_labels early)))

    pub single-set : (r : Place ℕ) (rows' : List (Place ℕ)) → r.again ≡ (place_at rows i).again → rows' ≡ slice_set rows i r → (k : ℕ) → (place_at rows' k).again ≡ false
    single-set r rows' again is k =
        ap (λ rs. (place_at rs k).again) is ∙ each-set rows i r within (λ x. x.again ≡ false) sound.single (again ∙ sound.single i) k

  -- ---- the tree
  abbrev p : Path
  p = node_path d node

  abbrev f : Place ℕ → Row Label
  f = label_seen nodes

  abbrev is : Label → Bool
  is = is_label_at label.now p

  turn : (a b : Bool) → (a && b) ≡ true → (b && a) ≡ true
  turn a b e = let parts = and_parts a b e in and_from b a parts.1 parts.0

  to : (j : ℕ) → is (f (place_at rows j)).what ≡ true → HasKey rows j node label.now
  to j e = key-of-row nodes (found_in d.nodes) sound.tables.nodes_table sound.tables.grown sound.tables.node_owners rows found sound.tables.labels_table sound.tables.label_owners node mine label.now j
      (turn (bytes_eq label.now (place_at rows j).name.now) (same_path p (path_of nodes (place_at rows j).owner)) e)

  of : (j : ℕ) → HasKey rows j node label.now → is (f (place_at rows j)).what ≡ true
  of j k = turn (same_path p (path_of nodes (place_at rows j).owner)) (bytes_eq label.now (place_at rows j).name.now)
      (row-of-key nodes (found_in d.nodes) sound.tables.nodes_table sound.tables.grown sound.tables.node_owners rows found sound.tables.labels_table sound.tables.label_owners node mine label.now j k)

  gone : (j : ℕ) → (place_at rows j).removed ≡ true → (f (place_at rows j)).stands ≡ false
  gone j = removed-gone nodes (place_at rows j)

  seen-given : (r : Place ℕ) → r.owner ≡ node → r.name.now ≡ label.now → r.made ≡ d.clock → r.removed ≡ false → f r ≡ row (labelled_at label.now p)
  seen-given r owner named made kept =
      ap₂ (λ n o. record { what = labelled_at n (path_of nodes o); stands = (not r.removed && nat_le (made_at nodes o) r.made) && holds nodes o }) named owner
      ∙ ap₂ (λ x m. record { what = labelled_at label.now p; stands = (not x && nat_le (made_at nodes node) m) && holds nodes node }) kept made
      ∙ ap₂ (λ a b. record { what = labelled_at label.now p; stands = a && b }) (le-leb (made_at nodes node) d.clock (early-node d sound node standing label node)) standing.there

  abbrev with_labels : (read : V → List Piece) → List (Row Label) → DtcTree
  with_labels read ls = record (dtc_tree read d) { labels = ls }

  pub given-new : (value : Option ℕ) (read : V → List Piece) (rows' : List (Place ℕ)) → found node label.now ≡ None → rows' ≡ rows ++ given value ∷ [] → with_labels read (map f rows') ≡ with_labels_at (label.now ∷ []) p (dtc_tree read d)
  given-new value read rows' none at =
      ap (with_labels read)
      (ap (map f) at ∙ map_push f rows (given value) ∙ ap (λ x. map f rows ++ x ∷ []) (seen-given (given value) refl refl refl refl)
      ∙ sym (seen-put-none rows found sound.tables.labels_table node label.now f is to of gone (labelled_at label.now p) none))

  pub given-again : (read : V → List Piece) (i : ℕ) (r : Place ℕ) (rows' : List (Place ℕ)) → found node label.now ≡ Some i → r.owner ≡ (place_at rows i).owner → r.name.now ≡ (place_at rows i).name.now → r.made ≡ d.clock → r.removed ≡ false
      → rows' ≡ slice_set rows i r → with_labels read (map f rows') ≡ with_labels_at (label.now ∷ []) p (dtc_tree read d)
  given-again read i r rows' has owner named made kept at =
      let k = (sound.tables.labels_table.right node label.now i has).1 in
      ap (with_labels read)
      (ap (map f) at ∙ map-set f rows i r ∙ ap (λ x. slice_set (map f rows) i x) (seen-given r (owner ∙ k.0) (named ∙ k.1) made kept)
      ∙ sym (seen-put rows found sound.tables.labels_table node label.now f is to of gone (labelled_at label.now p) i has (sound.single i)))

-- ---- marks
pub marks-more : {X : Type 0} (nodes : List (Place X)) (found : Found) (marks marks' : List ℕ) (n : ℕ) → ((k : ℕ) → IsOwner nodes found (slice_index_or marks k 0)) → IsOwner nodes found n → marks' ≡ marks ++ n ∷ []
    → (k : ℕ) → IsOwner nodes found (slice_index_or marks' k 0)
marks-more nodes found marks marks' n before here is k =
    subst (λ (ms : List ℕ). IsOwner nodes found (slice_index_or ms k 0)) (sym is) (elim (cases_lt k (length marks)) [
      | inl below ↦ subst (λ (m : ℕ). IsOwner nodes found m) (sym (get_or_append_left marks (n ∷ []) 0 k below)) (before k)
      | inr above ↦ elim (cases_eq k (length marks)) [
        | inl same ↦ subst (λ (m : ℕ). IsOwner nodes found m) (sym (get_or_push marks n 0 k (sym same))) here
        | inr other ↦ λ j e. absurd (omega (arith, e, get_or_past (marks ++ n ∷ []) k 0 (omega (arith, above, other, length_push marks n))))
      ]
    ])

pub marked-more : {V : Type 0} (read : V → List Piece) (d : PlacedTree V) (marks' : List ℕ) (n : ℕ) → marks' ≡ d.marks.items ++ n ∷ []
    → (let t : DtcTree = record (dtc_tree read d) { marked = map (path_of (rows_in d.nodes)) (reverse marks') } in t) ≡ with_mark true (node_path d n) (dtc_tree read d)
marked-more read d marks' n is =
    ap (λ ms. record (dtc_tree read d) { marked = map (path_of (rows_in d.nodes)) ms }) (ap reverse is ∙ reverse-append d.marks.items (n ∷ []))

-- ---- the root
no-place : {X : Type 0} (nodes rows : List (Place X)) → has_place (same_path []) (map (node_seen nodes) rows) ≡ false
no-place nodes [] = refl
no-place nodes (r ∷ rs) = ap (λ b. b || has_place (same_path []) (map (node_seen nodes) rs)) (not-empty (path_of nodes r.owner) r.name.now) ∙ no-place nodes rs where
  not-empty : (q : Path) (n : List ℕ) → same_path [] (q ++ n ∷ []) ≡ false
  not-empty [] n = refl
  not-empty (x ∷ q) n = refl

pub root-there : {V : Type 0} (read : V → List Piece) (d : PlacedTree V) (b : Bool) → d.begun ≡ b → node_has_place [] (dtc_tree read d) ≡ b
root-there read d true e = ap (λ b. has_place (same_path []) (root_rows b ++ map (node_seen (rows_in d.nodes)) (rows_in d.nodes))) e
root-there read d false e = ap (λ b. has_place (same_path []) (root_rows b ++ map (node_seen (rows_in d.nodes)) (rows_in d.nodes))) e ∙ no-place (rows_in d.nodes) (rows_in d.nodes)

pub begun-tree : {V : Type 0} (read : V → List Piece) (d : PlacedTree V) → (d.begun ≡ false → rows_in d.nodes ≡ []) → (b : Bool) → d.begun ≡ b → dtc_tree read (record d { begun = true }) ≡ with_root (dtc_tree read d)
begun-tree read d empty true e =
    ap (λ b. record (dtc_tree read d) { nodes = root_rows b ++ map (node_seen (rows_in d.nodes)) (rows_in d.nodes) }) (sym e)
    ∙ sym (ap (λ b. if b then dtc_tree read d else record (dtc_tree read d) { nodes = (dtc_tree read d).nodes ++ row [] ∷ [] }) (root-there read d true e))
begun-tree read d empty false e =
    ap (λ xs. record (dtc_tree read d) { nodes = xs }) (ap (λ (rs : List (Place ℕ)). row [] ∷ map (node_seen rs) rs) (empty e)
    ∙ sym (ap₂ (λ (b : Bool) (rs : List (Place ℕ)). (root_rows b ++ map (node_seen rs) rs) ++ row [] ∷ []) e (empty e)))
    ∙ sym (ap (λ b. if b then dtc_tree read d else record (dtc_tree read d) { nodes = (dtc_tree read d).nodes ++ row [] ∷ [] }) (root-there read d false e))
