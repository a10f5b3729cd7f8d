-- Live trees of which no row was removed: what makes them whole, and what is known of whole ones.
use Rattle.std.proofs.Common.{◌≡◌, ℕ, zero, suc, ◌+◌, ◌≤◌, ◌<◌, Bool, true, false, not, ◌&&◌, ◌||◌, List, [], ◌∷◌, ◌++◌, length, get_or, map, is_some, refl, sym, ap, ap₂, ◌∙◌, true≢false, arith}
use Rattle.std.specs.List.{All, list_all}
use Rattle.std.proofs.lemmas.Bool.{and_parts, and_from}
use Rattle.std.proofs.lemmas.List.{get_or_default}
use Rattle.std.proofs.lemmas.List.Folds.{list_all-append, list_all-map}
use Rattle.dt_tree.specs.Name.{is_name, are_names}
use Rattle.dt_source.specs.TreeMeaning.Paths.{Path, same_path, is_listed}
use Rattle.dt_live.proofs.BuilderLemmas.PathFacts.{same-is}
use Rattle.dt_live.specs.declared.live_tree.LiveTree.{LiveTree}
use Rattle.dt_live.specs.declared.live_tree.NodeRow.{NodeRow}
use Rattle.dt_live.specs.declared.live_tree.PropertyRow.{PropertyRow}
use Rattle.dt_live.specs.Rows.{IsLiveTree, no_property, no_row, row_at, path_of, stands, property_at, state_of, worn}
use Rattle.dt_live.proofs.Climbs.{path-step, one-node, stands-step}
use Rattle.dt_live.proofs.StandingProperties.{listed-standing}
use Rattle.dt_live.specs.Index.{row_of}
use Rattle.dt_live.specs.ByRow.{has_all_rows, is_named}
use Rattle.dt_live.specs.Flattened.{Lent, lists, first_nodes, nodes_from, IsWhole}
use Rattle.dt_live.proofs.WholeRows.{HasValue, entry, all-at, stands-all, standing-all, standing_properties-all, worn-none}

-- ---- lists
listed-test : (test : Path → Bool) (xs : List Path) (q : Path) → list_all test xs ≡ true → is_listed q xs ≡ true → test q ≡ true
listed-test test [] q all there = absurd (true≢false (sym there))
listed-test test (x ∷ xs) q all there =
    let parts = and_parts (test x) (list_all test xs) all in
    by_same (same_path q x) refl there parts.0 (listed-test test xs q parts.1) where
      by_same : (t : Bool) → same_path q x ≡ t → (t || is_listed q xs) ≡ true → test x ≡ true → (is_listed q xs ≡ true → test q ≡ true) → test q ≡ true
      by_same true same l first ih = ap test (same-is q x same) ∙ first
      by_same false same l first ih = ih l

last-named : (p : Path) (n : List ℕ) → are_names (p ++ n ∷ []) ≡ true → is_name n ≡ true
last-named [] n e = (and_parts (is_name n) true e).0
last-named (x ∷ xs) n e = last-named xs n (and_parts (is_name x) (are_names (xs ++ n ∷ [])) e).1

-- ---- a whole live tree
module _ (d : LiveTree Lent) (sound : IsLiveTree d) (stand : (n : ℕ) → n ≤ length d.nodes.items → stands d.nodes.items n ≡ true) where
  pub all-paths : (lists d).nodes ≡ map (path_of d.nodes.items) (first_nodes (length d.nodes.items))
  all-paths = standing-all (path_of d.nodes.items) (stands d.nodes.items) (length d.nodes.items) stand

  pub all-entries : All HasValue d.properties.items → (lists d).properties ≡ map (entry (path_of d.nodes.items)) d.properties.items
  all-entries has = standing_properties-all (path_of d.nodes.items) (stands d.nodes.items) d.properties.items (λ i. stand (property_at d.properties.items i).node (sound.known i)) has

  -- no two nodes have one path
  pub one-number : (n k : ℕ) → n ≤ length d.nodes.items → k ≤ length d.nodes.items → path_of d.nodes.items n ≡ path_of d.nodes.items k → n ≡ k
  one-number n k le known e = one-node d.nodes.items (row_of d.node_rows) sound.grown sound.nodes n n k (omega arith) (stand n le) (stand k known) e

-- ---- no row was removed
module _ (d : LiveTree Lent) (sound : IsLiveTree d) (rows : has_all_rows d ≡ true) (bare : (state_of d).labels ≡ []) (nodes : list_all are_names (lists d).nodes ≡ true)
    (properties : list_all is_named (lists d).properties ≡ true) where
  row_tests : (list_all (λ r. not r.removed) d.nodes.items ≡ true) × (list_all (λ r. is_some r.value) d.properties.items ≡ true)
  row_tests = and_parts (list_all (λ r. not r.removed) d.nodes.items) (list_all (λ r. is_some r.value) d.properties.items) rows

  stand : (n : ℕ) → n ≤ length d.nodes.items → stands d.nodes.items n ≡ true
  stand n le = stands-all d.nodes.items sound.grown row_tests.0 n n (omega arith) le

  valued : All HasValue d.properties.items
  valued k r lt = all-at (λ r. is_some r.value) d.properties.items k r row_tests.1 lt

  row-named : (k : ℕ) → k < length d.nodes.items → is_name (row_at d.nodes.items k).name.now ≡ true
  row-named k lt =
      let rows = d.nodes.items in
      let listed = listed-standing (path_of rows) (stands rows) (length rows) k (omega arith) (stand (suc k) (omega arith)) in
      last-named (path_of rows (row_at rows k).parent) (row_at rows k).name.now
      (ap are_names (sym (path-step rows sound.grown k)) ∙ listed-test are_names (lists d).nodes (path_of rows (suc k)) nodes listed)

  pub whole-rows : IsWhole d
  whole-rows = record {
    sound = sound;
    stand = stand;
    valued = valued;
    unlabelled = worn-none (path_of d.nodes.items) (stands d.nodes.items) d.labels.items (λ i. stand _ (sound.known_labels i)) bare;
    named_nodes = λ k r lt. ap (λ (x : NodeRow). is_name x.name.now) (get_or_default d.nodes.items k r no_row lt) ∙ row-named k lt;
    named_properties = λ k r lt. all-at (λ r. is_name r.name.now) d.properties.items k r
        (sym (list_all-map is_named (entry (path_of d.nodes.items)) d.properties.items) ∙ ap (list_all is_named) (sym (all-entries d sound stand valued)) ∙ properties) lt;
  }

-- ---- what is known of a whole live tree
all-by : {A : Type 0} (test : A → Bool) (none : A) (xs : List A) → ((k : ℕ) → k < length xs → test (get_or xs k none) ≡ true) → list_all test xs ≡ true
all-by test none [] each = refl
all-by test none (x ∷ xs) each = and_from (test x) (list_all test xs) (each 0 (omega arith)) (all-by test none xs (λ k lt. each (suc k) (omega arith)))

all-from : (test : ℕ → Bool) (k n : ℕ) → ((m : ℕ) → k ≤ m → m < k + n → test m ≡ true) → list_all test (nodes_from k n) ≡ true
all-from test k zero each = refl
all-from test k (suc n) each = and_from (test k) (list_all test (nodes_from (k + 1) n)) (each k (omega arith) (omega arith)) (all-from test (k + 1) n (λ m le lt. each m (omega arith) (omega arith)))

module _ (d : LiveTree Lent) (whole : IsWhole d) where
  pub whole-all : has_all_rows d ≡ true
  whole-all =
      and_from (list_all (λ r. not r.removed) d.nodes.items) (list_all (λ r. is_some r.value) d.properties.items)
      (all-by (λ (r : NodeRow). not r.removed) no_row d.nodes.items (λ k lt.
      let r = row_at d.nodes.items k in
      (and_parts (not r.removed) (stands d.nodes.items r.parent) (sym (stands-step d.nodes.items whole.sound.grown k) ∙ whole.stand (suc k) (omega arith))).0))
      (all-by (λ (r : PropertyRow Lent). is_some r.value) no_property d.properties.items (λ k lt. whole.valued k no_property lt))

  pub whole-bare : (state_of d).labels ≡ []
  whole-bare = ap (worn (path_of d.nodes.items) (stands d.nodes.items)) whole.unlabelled

  path-named : (f m : ℕ) → m ≤ f → m ≤ length d.nodes.items → are_names (path_of d.nodes.items m) ≡ true
  path-named f zero fuel le = refl
  path-named zero (suc k) fuel le = absurd (omega arith)
  path-named (suc f) (suc k) fuel le =
      let r = row_at d.nodes.items k in
      ap are_names (path-step d.nodes.items whole.sound.grown k)
      ∙ list_all-append is_name (path_of d.nodes.items r.parent) (r.name.now ∷ [])
      ∙ ap₂ (λ s t. s && (t && true)) (path-named f r.parent (omega (arith, whole.sound.grown k)) (omega (arith, whole.sound.grown k))) (whole.named_nodes k no_row (omega arith))

  pub whole-nodes-named : list_all are_names (lists d).nodes ≡ true
  whole-nodes-named =
      ap (list_all are_names) (all-paths d whole.sound whole.stand)
      ∙ list_all-map are_names (path_of d.nodes.items) (first_nodes (length d.nodes.items))
      ∙ all-from (λ m. are_names (path_of d.nodes.items m)) 1 (length d.nodes.items) (λ m le lt. path-named m m (omega arith) (omega arith))

  pub whole-properties-named : list_all is_named (lists d).properties ≡ true
  whole-properties-named =
      ap (list_all is_named) (all-entries d whole.sound whole.stand whole.valued)
      ∙ list_all-map is_named (entry (path_of d.nodes.items)) d.properties.items
      ∙ all-by (λ (r : PropertyRow Lent). is_name r.name.now) no_property d.properties.items (λ k lt. whole.named_properties k no_property lt)
