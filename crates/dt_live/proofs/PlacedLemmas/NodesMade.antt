-- A child in a later body, at the place that it has.
use Rattle.std.proofs.Common.{◌≡◌, ℕ, suc, ◌<◌, ◌≤◌, true, false, List, [], ◌∷◌, ◌++◌, length, map, slice_set, reverse, Some, Ok, Err, Bor, if◌then◌else◌, refl, sym, ap, ap₂, ◌∙◌, subst, arith}
use Rattle.std.specs.Prelude.{slice_index_or}
use Rattle.std.proofs.lemmas.List.{get_or-map, length-set, map-set, set-get_or}
use Rattle.dt_source.specs.TreeMeaning.Paths.{Path, same_path}
use Rattle.dt_source.specs.TreeMeaning.Syntax.{Piece}
use Rattle.dt_source.specs.TreeMeaning.Statements.{DuplicateInBody}
use Rattle.dt_source.specs.TreeMeaning.Places.{Row, row, put_in_place}
use Rattle.dt_source.specs.TreeMeaning.DtcEdits.{DtcTree, made_node}
use Rattle.dt_live.specs.Rows.{Found}
use Rattle.dt_live.specs.declared.placed.place.Place.{Place}
use Rattle.dt_live.specs.declared.placed.placed_tree.PlacedTree.{PlacedTree}
use Rattle.dt_live.specs.Placed.Rows.{holds, is_made, is_there, no_place, path_of, place_at}
use Rattle.dt_live.specs.Placed.Tables.{found_in, rows_in}
use Rattle.dt_live.specs.Placed.PlacedTrees.{AreSound, IsOwner, IsPlacedTree, IsStanding, child_path, dtc_tree, label_seen, node_path, node_seen, property_seen, root_rows}
use Rattle.dt_live.specs.Placed.PlacedEdits.{IsMade, Keeps}
use Rattle.dt_live.proofs.PlacedLemmas.NewNodes.{holds-row, key, known-row, not-root, of, gone, to, two-again, two-single}
use Rattle.dt_live.proofs.PlacedLemmas.NodeEdits.{holds-made, there-others}
use Rattle.dt_live.proofs.PlacedLemmas.NodeSteps.{changed-grown, changed-keeps, changed-owner, changed-path, map-by, root-put, with-nodes}
use Rattle.dt_live.proofs.PlacedLemmas.NodesAdded.{tree-by}
use Rattle.dt_live.proofs.PlacedLemmas.PlaceClimbs.{holds-same, holds-step, path-step}
use Rattle.dt_live.proofs.PlacedLemmas.RowTables.{each-set, set-here, set-there, table-set}
use Rattle.dt_live.proofs.PlacedLemmas.SeenRows.{seen-put}

module _ {V : Type 0} (d : PlacedTree V) (sound : IsPlacedTree d) (parent : ℕ) (standing : IsStanding d parent) (name : Bor (List ℕ)) (i : ℕ) (has : found_in d.nodes parent name.now ≡ Some i) where
  abbrev old : List (Place ℕ)
  old = rows_in d.nodes

  abbrev found : Found
  found = found_in d.nodes

  abbrev q : Path
  q = child_path d parent name.now

  within : i < length old
  within = known-row d sound parent standing name i has

  -- the row's node is at the child's path
  pub path-row : path_of old (suc i) ≡ q
  path-row =
      let k = key d sound parent standing name i has in
      path-step old sound.tables.grown i ∙ ap₂ (λ n w. path_of old n ++ w ∷ []) k.0 k.1

  what-row : (node_seen old (place_at old i)).what ≡ q
  what-row =
      let k = key d sound parent standing name i has in
      ap₂ (λ n w. path_of old n ++ w ∷ []) k.0 k.1

  put-at : (read : V → List Piece) → (place_at old i).again ≡ false → put_in_place (same_path q) q (dtc_tree read d).nodes ≡ root_rows d.begun ++ slice_set (map (node_seen old) old) i (row q)
  put-at read one =
      root-put (same_path q) (not-root (node_path d parent) name.now) d.begun (map (node_seen old) old) q
      ∙ ap (λ xs. root_rows d.begun ++ xs)
      (seen-put old found sound.tables.nodes_table parent name.now (node_seen old) (same_path q) (to d sound parent standing name read) (of d sound parent standing name read) (gone d sound parent standing name read) q i has one)

  abbrev made_as : (read : V → List Piece) → List (Row Path) → DtcTree
  made_as read ns = record (dtc_tree read d) { nodes = ns }

  by-places : (read : V → List Piece) → (place_at old i).again ≡ false → made_node false q (dtc_tree read d) ≡ Ok (made_as read (root_rows d.begun ++ slice_set (map (node_seen old) old) i (row q)))
  by-places read one =
      ap (λ b. if b then Err DuplicateInBody else Ok (made_as read (put_in_place (same_path q) q (dtc_tree read d).nodes))) (two-single d sound parent standing name read i has one)
      ∙ ap (λ ns. Ok (made_as read ns)) (put-at read one)

  pub make-refused : (read : V → List Piece) → (place_at old i).again ≡ true → made_node false q (dtc_tree read d) ≡ Err DuplicateInBody
  make-refused read twice = ap (λ b. if b then Err DuplicateInBody else Ok (made_as read (put_in_place (same_path q) q (dtc_tree read d).nodes))) (two-again d sound parent standing name read i has twice)

  -- ---- it stands already
  pub made-merged : (read : V → List Piece) → (place_at old i).again ≡ false → is_made old (place_at old i) ≡ true → made_node false q (dtc_tree read d) ≡ Ok (dtc_tree read d)
  made-merged read one there =
      by-places read one
      ∙ ap (λ xs. Ok (made_as read (root_rows d.begun ++ xs)))
      (ap (slice_set (map (node_seen old) old) i) (sym here) ∙ set-get_or (map (node_seen old) old) i (node_seen old no_place)) where
        here : slice_index_or (map (node_seen old) old) i (node_seen old no_place) ≡ row q
        here =
            get_or-map (node_seen old) old i no_place (node_seen old no_place) within
            ∙ ap₂ (λ w s. record { what = w; stands = s }) what-row (sym (holds-step old sound.tables.grown i) ∙ holds-row d sound parent standing name i has true there)

  pub merged-standing : (d' : PlacedTree V) → rows_in d'.nodes ≡ old → is_made old (place_at old i) ≡ true → IsMade d' parent (suc i) q
  merged-standing d' ns there = record {
    behind = omega (arith, sound.tables.grown i, (key d sound parent standing name i has).0);
    standing = record { known = omega (arith, within, ap length ns); there = ap (λ rs. holds rs (suc i)) ns ∙ holds-row d sound parent standing name i has true there };
    path = ap (λ rs. path_of rs (suc i)) ns ∙ path-row;
  }

  -- ---- it is made again
  module _ (r : Place ℕ) (owner : r.owner ≡ (place_at old i).owner) (named : r.name.now ≡ (place_at old i).name.now) (again : r.again ≡ (place_at old i).again) (late : d.clock < r.made) (kept : r.removed ≡ false)
      (away : is_made old (place_at old i) ≡ false) where
    abbrev new : List (Place ℕ)
    new = slice_set old i r

    here : place_at new i ≡ r
    here = set-here old i r within

    grown' : (k : ℕ) → (place_at new k).owner ≤ k
    grown' = changed-grown old i r within owner named sound.tables.grown

    above : holds old (place_at old i).owner ≡ true
    above = ap (holds old) (key d sound parent standing name i has).0 ∙ standing.there

    early : (k : ℕ) → (place_at old k).made < (place_at new i).made
    early k = omega (arith, sound.tables.early k, late, ap (λ x. x.made) here)

    stands-now : holds new (suc i) ≡ true
    stands-now = holds-made old new i sound.tables.grown grown' (changed-owner old i r within owner named sound.tables.grown) (set-there old i r within) early (omega (arith, sound.tables.ticking, late, ap (λ x. x.made) here))
        (ap (λ x. x.removed) here ∙ kept) above (holds-row d sound parent standing name i has false away)

    there' : {Y : Type 0} (x : Place Y) → x.made < (place_at new i).made → is_there new x ≡ is_there old x
    there' = there-others old new i sound.tables.grown grown' (changed-owner old i r within owner named sound.tables.grown) (set-there old i r within) early (omega (arith, sound.tables.ticking, late, ap (λ x. x.made) here))
        (ap (λ x. x.removed) here ∙ kept) above (holds-row d sound parent standing name i has false away)

    path' : (n : ℕ) → path_of new n ≡ path_of old n
    path' = changed-path old i r within owner named sound.tables.grown

    keep : (n : ℕ) → IsOwner old found n → IsOwner new found n
    keep = changed-keeps old i r within owner named sound.tables.grown found (omega (arith, sound.tables.early i, late))

    pub sound-made : (clock : ℕ) → r.made ≤ clock → AreSound new found (rows_in d.properties) (found_in d.properties) (rows_in d.labels) (found_in d.labels) clock
    sound-made clock le =
        let k = key d sound parent standing name i has in
        with-nodes old found (rows_in d.properties) (found_in d.properties) (rows_in d.labels) (found_in d.labels) d.clock sound.tables new found clock
        (table-set old i r within owner named found sound.tables.nodes_table (ap₂ found k.0 k.1 ∙ has) again) grown' keep
        (λ j. subst (λ (n : ℕ). IsOwner new found n) (sym (changed-owner old i r within owner named sound.tables.grown j)) (keep (place_at old j).owner (sound.tables.node_owners j)))
        (each-set old i r within (λ x. x.made ≤ clock) (λ j. omega (arith, sound.tables.early j, late, le)) le)
        (omega (arith, late, le))

    pub marks-made : (k : ℕ) → IsOwner new found (slice_index_or d.marks.items k 0)
    marks-made k = keep (slice_index_or d.marks.items k 0) (sound.marks k)

    nodes-made : map (node_seen new) new ≡ slice_set (map (node_seen old) old) i (row q)
    nodes-made =
        map-set (node_seen new) old i r
        ∙ ap₂ (λ xs x. slice_set xs i x)
        (map-by (node_seen old) (node_seen new) no_place old (λ k below.
        let x = place_at old k in
        ap₂ (λ a s. record { what = a ++ x.name.now ∷ []; stands = s }) (path' x.owner) (there' x (early k))))
        (ap₂ (λ w s. record { what = w; stands = s })
        (ap₂ (λ a n. a ++ n ∷ []) (path' r.owner ∙ ap (path_of old) owner) named ∙ what-row)
        (ap (is_there new) (sym here) ∙ sym (holds-step new grown' i) ∙ stands-now))

    marks-seen : (ms : List ℕ) → map (path_of new) ms ≡ map (path_of old) ms
    marks-seen [] = refl
    marks-seen (m ∷ ms) = ap₂ (λ a as'. a ∷ as') (path' m) (marks-seen ms)

    pub tree-made : (read : V → List Piece) → (place_at old i).again ≡ false → (d' : PlacedTree V) → rows_in d'.nodes ≡ new → d'.properties ≡ d.properties → d'.labels ≡ d.labels → d'.marks ≡ d.marks → d'.fragments ≡ d.fragments → d'.begun ≡ d.begun
        → made_node false q (dtc_tree read d) ≡ Ok (dtc_tree read d')
    tree-made read one d' ns ps ls ms fs bs =
        by-places read one
        ∙ ap (λ t. Ok t) (sym (
        (λ j. record {
          nodes = root_rows (bs j) ++ map (node_seen (ns j)) (ns j);
          properties = map (property_seen read (ns j)) (rows_in (ps j));
          labels = map (label_seen (ns j)) (rows_in (ls j));
          marked = map (path_of (ns j)) (reverse (ms j).items);
          fragments = fs j;
        })
        ∙ tree-by d.fragments (ap (λ xs. root_rows d.begun ++ xs) nodes-made)
        (map-by (property_seen read old) (property_seen read new) no_place (rows_in d.properties) (λ k below.
        let x = place_at (rows_in d.properties) k in
        ap₂ (λ a s. record { what = record { path = a; name = x.name.now; value = (property_seen read old x).what.value }; stands = s }) (path' x.owner) (there' x (omega (arith, sound.tables.early_properties k, late, ap (λ y. y.made) here)))))
        (map-by (label_seen old) (label_seen new) no_place (rows_in d.labels) (λ k below.
        let x = place_at (rows_in d.labels) k in
        ap₂ (λ a s. record { what = record { label = x.name.now; path = a }; stands = s }) (path' x.owner) (there' x (omega (arith, sound.tables.early_labels k, late, ap (λ y. y.made) here)))))
        (marks-seen (reverse d.marks.items))))

    pub made-standing : (d' : PlacedTree V) → rows_in d'.nodes ≡ new → IsMade d' parent (suc i) q
    made-standing d' ns = record {
      behind = omega (arith, sound.tables.grown i, (key d sound parent standing name i has).0);
      standing = record { known = omega (arith, within, ap length ns, length-set old i r); there = ap (λ rs. holds rs (suc i)) ns ∙ stands-now };
      path = ap (λ rs. path_of rs (suc i)) ns ∙ path' (suc i) ∙ path-row;
    }

    pub keeps-made : (d' : PlacedTree V) → rows_in d'.nodes ≡ new → Keeps parent d d'
    keeps-made d' ns = record {
      more = omega (arith, ap length ns, length-set old i r);
      paths = λ k known. ap (λ rs. path_of rs k) ns ∙ path' k;
      stand = λ k up s. record {
        known = omega (arith, ap length ns, length-set old i r, s.known);
        there =
            ap (λ rs. holds rs k) ns
            ∙ holds-same old new i sound.tables.grown (λ j below. set-there old i r within j (λ e. absurd (omega (arith, below, e)))) k k
            (omega (arith, up, sound.tables.grown i, (key d sound parent standing name i has).0)) ∙ s.there;
      };
    }

-- the tables after a longer time
pub sound-later : {N P L : Type 0} (nodes : List (Place N)) (fn : Found) (ps : List (Place P)) (fp : Found) (ls : List (Place L)) (fl : Found) (clock clock' : ℕ) → clock ≤ clock' → AreSound nodes fn ps fp ls fl clock → AreSound nodes fn ps fp ls fl clock'
sound-later nodes fn ps fp ls fl clock clock' later sound = record {
  nodes_table = sound.nodes_table;
  properties_table = sound.properties_table;
  labels_table = sound.labels_table;
  grown = sound.grown;
  node_owners = sound.node_owners;
  property_owners = sound.property_owners;
  label_owners = sound.label_owners;
  early = λ k. omega (arith, sound.early k, later);
  early_properties = λ k. omega (arith, sound.early_properties k, later);
  early_labels = λ k. omega (arith, sound.early_labels k, later);
  ticking = omega (arith, sound.ticking, later);
}

-- the same tables show the same tree
pub tree-same : {V : Type 0} (read : V → List Piece) (d d' : PlacedTree V) → rows_in d'.nodes ≡ rows_in d.nodes → rows_in d'.properties ≡ rows_in d.properties → rows_in d'.labels ≡ rows_in d.labels → d'.marks ≡ d.marks → d'.fragments ≡ d.fragments → d'.begun ≡ d.begun
    → dtc_tree read d' ≡ dtc_tree read d
tree-same read d d' ns ps ls ms fs bs =
    λ j. record {
      nodes = root_rows (bs j) ++ map (node_seen (ns j)) (ns j);
      properties = map (property_seen read (ns j)) (ps j);
      labels = map (label_seen (ns j)) (ls j);
      marked = map (path_of (ns j)) (reverse (ms j).items);
      fragments = fs j;
    }
