-- A node goes, with all below it and all that they have.
use Rattle.std.proofs.Common.{◌≡◌, ℕ, zero, suc, ◌<◌, ◌≤◌, Bool, true, false, not, ◌&&◌, ◌||◌, List, [], ◌∷◌, ◌++◌, length, map, slice_set, reverse, Some, None, Ok, Bor, if◌then◌else◌, refl, sym, ap, ap₂, ◌∙◌, subst, arith}
use Rattle.std.specs.Prelude.{slice_index_or}
use Rattle.std.proofs.lemmas.List.{ext_get_or, get_or-map, length-map, length-set}
use Rattle.dt_source.specs.TreeMeaning.Paths.{Path, is_within, same_path}
use Rattle.dt_source.specs.TreeMeaning.Syntax.{Piece}
use Rattle.dt_source.specs.TreeMeaning.Places.{Row, place, all_removed}
use Rattle.dt_source.specs.TreeMeaning.DtcEdits.{unmade_node, without_all_within}
use Rattle.dt_live.proofs.NodeRows.{absent-present}
use Rattle.dt_live.proofs.PathTests.{within-root, within-snoc}
use Rattle.dt_live.specs.declared.placed.place.Place.{Place}
use Rattle.dt_live.specs.declared.placed.placed_tree.PlacedTree.{PlacedTree}
use Rattle.dt_live.specs.Placed.Rows.{holds, is_there, no_place, path_of, place_at}
use Rattle.dt_live.specs.Placed.Tables.{found_in, rows_in}
use Rattle.dt_live.specs.Placed.PlacedTrees.{AreSound, IsOwner, IsPlacedTree, IsStanding, child_path, dtc_tree, label_seen, node_path, node_seen, property_seen, root_rows}
use Rattle.dt_live.specs.Placed.PlacedEdits.{Keeps}
use Rattle.dt_live.proofs.PlacedLemmas.NewNodes.{mine, two-none}
use Rattle.dt_live.proofs.PlacedLemmas.NodeEdits.{holds-left, there-left}
use Rattle.dt_live.proofs.PlacedLemmas.NodeSteps.{changed-grown, changed-keeps, changed-name, changed-owner, changed-path, none-removed, root-removed, with-nodes}
use Rattle.dt_live.proofs.PlacedLemmas.NodesAdded.{tree-by}
use Rattle.dt_live.proofs.PlacedLemmas.Owners.{key-of-child}
use Rattle.dt_live.proofs.PlacedLemmas.PlaceClimbs.{holds-same, holds-step, path-step}
use Rattle.dt_live.proofs.PlacedLemmas.RowTables.{each-set, set-here, set-there, table-set}

gone-by : {X : Type 0} (x : X) (s w : Bool) → (let r : Row X = record { what = x; stands = s && not w } in r) ≡ (if w then place x else record { what = x; stands = s })
gone-by x true true = refl
gone-by x true false = refl
gone-by x false true = refl
gone-by x false false = refl

-- rows that go, told by their numbers
pub removed-seen : {Y W : Type 0} (is : W → Bool) (f g : Place Y → Row W) (old new : List (Place Y)) → length new ≡ length old
    → ((k : ℕ) → k < length old → g (place_at new k) ≡ (if is (f (place_at old k)).what then place (f (place_at old k)).what else f (place_at old k)))
    → map g new ≡ all_removed is (map f old)
removed-seen {Y} {W} is f g old new long same =
    let h : Row W → Row W = λ r. if is r.what then place r.what else r in
    ext_get_or (h (f no_place)) (map g new) (map h (map f old))
    (length-map new g ∙ long ∙ sym (length-map (map f old) h ∙ length-map old f))
    (λ k below.
    let under : k < length new = omega (arith, below, length-map new g) in
    let under' : k < length old = omega (arith, under, long) in
    get_or-map g new k no_place (h (f no_place)) under ∙ same k under'
    ∙ sym (get_or-map h (map f old) k (f no_place) (h (f no_place)) (omega (arith, under', length-map old f)) ∙ ap h (get_or-map f old k no_place (f no_place) under')))

module _ {V : Type 0} (d : PlacedTree V) (sound : IsPlacedTree d) (i : ℕ) (within : i < length (rows_in d.nodes)) (counted : found_in d.nodes (place_at (rows_in d.nodes) i).owner (place_at (rows_in d.nodes) i).name.now ≡ Some i) (r : Place ℕ)
    (owner : r.owner ≡ (place_at (rows_in d.nodes) i).owner) (name : r.name.now ≡ (place_at (rows_in d.nodes) i).name.now) (made : r.made ≡ (place_at (rows_in d.nodes) i).made) (again : r.again ≡ (place_at (rows_in d.nodes) i).again)
    (removed : r.removed ≡ true) where
  abbrev old : List (Place ℕ)
  old = rows_in d.nodes

  abbrev new : List (Place ℕ)
  new = slice_set old i r

  abbrev p : Path
  p = path_of old (suc i)

  keep : (n : ℕ) → IsOwner old (found_in d.nodes) n → IsOwner new (found_in d.nodes) n
  keep = changed-keeps old i r within owner name sound.tables.grown (found_in d.nodes) (omega (arith, made))

  pub sound-removed : AreSound new (found_in d.nodes) (rows_in d.properties) (found_in d.properties) (rows_in d.labels) (found_in d.labels) d.clock
  sound-removed =
      with-nodes old (found_in d.nodes) (rows_in d.properties) (found_in d.properties) (rows_in d.labels) (found_in d.labels) d.clock sound.tables new (found_in d.nodes) d.clock
      (table-set old i r within owner name (found_in d.nodes) sound.tables.nodes_table counted again)
      (changed-grown old i r within owner name sound.tables.grown) keep
      (λ k. subst (λ (n : ℕ). IsOwner new (found_in d.nodes) n) (sym (changed-owner old i r within owner name sound.tables.grown k)) (keep (place_at old k).owner (sound.tables.node_owners k)))
      (each-set old i r within (λ x. x.made ≤ d.clock) sound.tables.early (omega (arith, made, sound.tables.early i)))
      (omega arith)

  pub marks-removed : (k : ℕ) → IsOwner new (found_in d.nodes) (slice_index_or d.marks.items k 0)
  marks-removed k = keep (slice_index_or d.marks.items k 0) (sound.marks k)

  path-same' : (n : ℕ) → path_of new n ≡ path_of old n
  path-same' = changed-path old i r within owner name sound.tables.grown

  left : {Y : Type 0} (x : Place Y) → is_there new x ≡ (is_there old x && not (is_within p (path_of old x.owner)))
  left = there-left old new (found_in d.nodes) i sound.tables.nodes_table sound.tables.grown (changed-grown old i r within owner name sound.tables.grown) sound.tables.node_owners counted
      (set-there old i r within) (ap (λ x. x.made) (set-here old i r within) ∙ made) (ap (λ x. x.removed) (set-here old i r within) ∙ removed)

  left-node : (k : ℕ) → holds new (suc k) ≡ (holds old (suc k) && not (is_within p (path_of old (suc k))))
  left-node k = holds-left old new (found_in d.nodes) i sound.tables.nodes_table sound.tables.grown (changed-grown old i r within owner name sound.tables.grown) sound.tables.node_owners counted
      (set-there old i r within) (ap (λ x. x.made) (set-here old i r within) ∙ made) (ap (λ x. x.removed) (set-here old i r within) ∙ removed) (suc k) (suc k) (omega arith)

  nodes-left : map (node_seen new) new ≡ all_removed (is_within p) (map (node_seen old) old)
  nodes-left = removed-seen (is_within p) (node_seen old) (node_seen new) old new (length-set old i r) (λ k below.
      let x = place_at old k in
      let y = place_at new k in
      let q : Path = path_of old x.owner ++ x.name.now ∷ [] in
      ap₂ (λ w s. record { what = w; stands = s })
      (ap₂ (λ a n. a ++ n ∷ []) (path-same' y.owner ∙ ap (path_of old) (changed-owner old i r within owner name sound.tables.grown k)) (changed-name old i r within owner name sound.tables.grown k))
      (sym (holds-step new (changed-grown old i r within owner name sound.tables.grown) k) ∙ left-node k ∙ ap₂ (λ s z. s && not (is_within p z)) (holds-step old sound.tables.grown k) (path-step old sound.tables.grown k))
      ∙ gone-by q (is_there old x) (is_within p q))

  properties-left : (read : V → List Piece) → map (property_seen read new) (rows_in d.properties) ≡ all_removed (λ e. is_within p e.path) (map (property_seen read old) (rows_in d.properties))
  properties-left read = removed-seen (λ e. is_within p e.path) (property_seen read old) (property_seen read new) (rows_in d.properties) (rows_in d.properties) refl (λ k below.
      let x = place_at (rows_in d.properties) k in
      let w = (property_seen read old x).what in
      ap₂ (λ q s. record { what = record { path = q; name = x.name.now; value = w.value }; stands = s }) (path-same' x.owner) (left x)
      ∙ gone-by w (is_there old x) (is_within p (path_of old x.owner)))

  labels-left : map (label_seen new) (rows_in d.labels) ≡ all_removed (λ l. is_within p l.path) (map (label_seen old) (rows_in d.labels))
  labels-left = removed-seen (λ l. is_within p l.path) (label_seen old) (label_seen new) (rows_in d.labels) (rows_in d.labels) refl (λ k below.
      let x = place_at (rows_in d.labels) k in
      let w = (label_seen old x).what in
      ap₂ (λ q s. record { what = record { label = x.name.now; path = q }; stands = s }) (path-same' x.owner) (left x)
      ∙ gone-by w (is_there old x) (is_within p (path_of old x.owner)))

  marks-left : (ms : List ℕ) → map (path_of new) ms ≡ map (path_of old) ms
  marks-left [] = refl
  marks-left (m ∷ ms) = ap₂ (λ q qs. q ∷ qs) (path-same' m) (marks-left ms)

  not-within-root : is_within p [] ≡ false
  not-within-root = ap (λ q. is_within q []) (path-step old sound.tables.grown i) ∙ within-root (path_of old (place_at old i).owner) (place_at old i).name.now

  pub tree-removed : (read : V → List Piece) (d' : PlacedTree V) → rows_in d'.nodes ≡ new → d'.properties ≡ d.properties → d'.labels ≡ d.labels → d'.marks ≡ d.marks → d'.fragments ≡ d.fragments → d'.begun ≡ d.begun
      → dtc_tree read d' ≡ without_all_within p (dtc_tree read d)
  tree-removed read d' ns ps ls ms fs bs =
      (λ j. record {
        nodes = root_rows (bs j) ++ map (node_seen (ns j)) (ns j);
        properties = map (property_seen read (ns j)) (rows_in (ps j));
        labels = map (label_seen (ns j)) (rows_in (ls j));
        marked = map (path_of (ns j)) (reverse (ms j).items);
        fragments = fs j;
      })
      ∙ tree-by d.fragments
      (ap (λ xs. root_rows d.begun ++ xs) nodes-left ∙ sym (root-removed (is_within p) not-within-root d.begun (map (node_seen old) old)))
      (properties-left read) labels-left (marks-left (reverse d.marks.items))

  pub keeps-removed : (n : ℕ) → n ≤ i → (d' : PlacedTree V) → rows_in d'.nodes ≡ new → Keeps n d d'
  keeps-removed n le d' ns = record {
    more = omega (arith, ap length ns, length-set old i r);
    paths = λ k known. ap (λ rs. path_of rs k) ns ∙ path-same' k;
    stand = λ k up s. record {
      known = omega (arith, ap length ns, length-set old i r, s.known);
      there =
          ap (λ rs. holds rs k) ns
          ∙ holds-same old new i sound.tables.grown (λ j below. set-there old i r within j (λ e. absurd (omega (arith, below, e)))) k k (omega (arith, up, le)) ∙ s.there;
    };
  }

-- ---- where the name has no row, nothing goes
module _ {V : Type 0} (d : PlacedTree V) (sound : IsPlacedTree d) (parent : ℕ) (standing : IsStanding d parent) (name : Bor (List ℕ)) where
  abbrev q : Path
  q = child_path d parent name.now

  by-not : (b : Bool) → (b ≡ true → ⊥) → b ≡ false
  by-not true f = absurd (f refl)
  by-not false f = refl

  module _ (none : found_in d.nodes parent name.now ≡ None) where
    not-row : (k : ℕ) → k < length (rows_in d.nodes) → same_path q (path_of (rows_in d.nodes) (place_at (rows_in d.nodes) k).owner ++ (place_at (rows_in d.nodes) k).name.now ∷ []) ≡ false
    not-row k below = by-not (same_path q (path_of (rows_in d.nodes) (place_at (rows_in d.nodes) k).owner ++ (place_at (rows_in d.nodes) k).name.now ∷ [])) (λ e.
        let key = key-of-child (rows_in d.nodes) (found_in d.nodes) sound.tables.nodes_table sound.tables.grown sound.tables.node_owners parent (mine d sound parent standing name) name.now k e in
        let was = sound.tables.nodes_table.whole k below in
        absent-present (found_in d.nodes parent name.now) was.0 none (ap₂ (found_in d.nodes) (sym key.0) (sym key.1) ∙ was.1))

    not-below : (f n : ℕ) → n ≤ f → n ≤ length (rows_in d.nodes) → is_within q (path_of (rows_in d.nodes) n) ≡ false
    not-below f zero le known = within-root (node_path d parent) name.now
    not-below zero (suc k) le known = absurd (omega (arith, le))
    not-below (suc f) (suc k) le known =
        let x = place_at (rows_in d.nodes) k in
        ap (is_within q) (path-step (rows_in d.nodes) sound.tables.grown k)
        ∙ within-snoc q (path_of (rows_in d.nodes) x.owner) x.name.now
        ∙ ap₂ (λ a b. a || b) (not-below f x.owner (omega (arith, sound.tables.grown k, le)) (omega (arith, sound.tables.grown k, known))) (not-row k (omega (arith, known)))

    known-owner' : (n : ℕ) → IsOwner (rows_in d.nodes) (found_in d.nodes) n → n ≤ length (rows_in d.nodes)
    known-owner' zero owns = omega arith
    known-owner' (suc k) owns = omega (arith, (owns k refl).0)

    out : (n : ℕ) → IsOwner (rows_in d.nodes) (found_in d.nodes) n → is_within q (path_of (rows_in d.nodes) n) ≡ false
    out n owns = not-below n n (omega arith) (known-owner' n owns)

    pub nothing-removed : (read : V → List Piece) → unmade_node false q (dtc_tree read d) ≡ Ok (dtc_tree read d)
    nothing-removed read =
        let nodes = rows_in d.nodes in
        ap (λ b. Ok (if b then dtc_tree read d else without_all_within q (dtc_tree read d))) (two-none d sound parent standing name read none)
        ∙ ap (λ t. Ok t) (tree-by d.fragments
        (root-removed (is_within q) (within-root (node_path d parent) name.now) d.begun (map (node_seen nodes) nodes)
        ∙ ap (λ xs. root_rows d.begun ++ xs) (none-removed (is_within q) (node_seen nodes no_place) (map (node_seen nodes) nodes) (λ k below.
        let under : k < length nodes = omega (arith, below, length-map nodes (node_seen nodes)) in
        ap (λ x. is_within q x.what) (get_or-map (node_seen nodes) nodes k no_place (node_seen nodes no_place) under)
        ∙ ap (is_within q) (sym (path-step nodes sound.tables.grown k)) ∙ not-below (suc k) (suc k) (omega arith) (omega (arith, under)))))
        (none-removed (λ e. is_within q e.path) (property_seen read nodes no_place) (map (property_seen read nodes) (rows_in d.properties)) (λ k below.
        let under : k < length (rows_in d.properties) = omega (arith, below, length-map (rows_in d.properties) (property_seen read nodes)) in
        ap (λ x. is_within q x.what.path) (get_or-map (property_seen read nodes) (rows_in d.properties) k no_place (property_seen read nodes no_place) under)
        ∙ out (place_at (rows_in d.properties) k).owner (sound.tables.property_owners k)))
        (none-removed (λ l. is_within q l.path) (label_seen {L = ℕ} nodes no_place) (map (label_seen nodes) (rows_in d.labels)) (λ k below.
        let under : k < length (rows_in d.labels) = omega (arith, below, length-map (rows_in d.labels) (label_seen nodes)) in
        ap (λ x. is_within q x.what.path) (get_or-map (label_seen nodes) (rows_in d.labels) k no_place (label_seen {L = ℕ} nodes no_place) under)
        ∙ out (place_at (rows_in d.labels) k).owner (sound.tables.label_owners k)))
        refl)
