-- One node of a part more.
use Rattle.std.proofs.Common.{◌≡◌, inl, inr, ℕ, suc, ◌+◌, ◌-◌, ◌≤◌, ◌<◌, Bool, true, false, ◌||◌, List, [], ◌∷◌, ◌++◌, length, get_or, slice_set, refl, sym, ap, ap₂, ◌∙◌, subst, append_assoc, append-nil, arith}
use Rattle.std.specs.List.{list_any}
use Rattle.std.proofs.lemmas.Bool.{cases_eq}
use Rattle.std.proofs.lemmas.List.{get_or_default, get_or-set_same, get_or-set_other}
use Rattle.dt_source.specs.TreeMeaning.Edits as edits
use Rattle.dt_source.specs.TreeMeaning.Paths.{Path}
use Rattle.dt_source.specs.TreeMeaning.Resolved.{is_too_deep}
use Rattle.dt_live.specs.declared.live_tree.LiveTree.{LiveTree}
use Rattle.dt_live.specs.declared.live_tree.NodeRow.{NodeRow}
use Rattle.dt_live.specs.Rows.{IsNode, is_standing, no_row, node_path, row_at, state_of}
use Rattle.dt_live.proofs.Climbs.{path-step}
use Rattle.dt_live.proofs.Keeping.{below-not-itself}
use Rattle.dt_live.specs.Flattened.{IsOrdered, IsWhole, Lent, lists}
use Rattle.dt_source.specs.OverlayMeaning.Applied.{moved, with_node, with_nodes}
use Rattle.dt_overlay.specs.Private.Merging.{AreKept, AreBaseNodes, IsInside, IsBaseNode}
use Rattle.dt_overlay.proofs.PartNodes.{deeper}
use Rattle.dt_overlay.proofs.PartLists.{nodes-step, nodes_left}

pub row-is : (xs rows : List NodeRow) (n k : ℕ) (other : NodeRow) → xs ≡ rows → n ≡ suc k → k < length rows → get_or xs (n - 1) other ≡ row_at rows k
row-is xs rows n k other same at lt =
    let down : n - 1 ≡ k = omega (arith, at) in
    ap₂ (λ ys m. get_or ys m other) same down ∙ get_or_default rows k other no_row lt

-- ---- moved paths
pub moved-top : (t q : Path) → length q ≡ 2 → t ≡ moved t q
moved-top t [] two = absurd (omega (arith, two))
moved-top t (x ∷ []) two = absurd (omega (arith, two))
moved-top t (x ∷ y ∷ []) two = sym (append-nil t)
moved-top t (x ∷ y ∷ z ∷ q) two = absurd (omega (arith, two))

moved-snoc : (t q : Path) (n : List ℕ) → 2 ≤ length q → moved t q ++ n ∷ [] ≡ moved t (q ++ n ∷ [])
moved-snoc t [] n two = absurd (omega arith)
moved-snoc t (x ∷ []) n two = absurd (omega arith)
moved-snoc t (x ∷ y ∷ q) n two = append_assoc t q (n ∷ [])

-- ---- fixup sites
pub kept-base_node : (over d d' : LiveTree Lent) (t : Path) (n base_node : ℕ) → AreKept d d' → IsBaseNode over d t n base_node → IsBaseNode over d' t n base_node
kept-base_node over d d' t n base_node kept p =
    let more = (kept []).more in
    let was = p.known in
    record {
      known = omega (arith, more, was);
      stands = (kept (node_path d base_node)).stand base_node was p.stands (below-not-itself (node_path d base_node));
      path = (kept []).paths base_node was ∙ p.path;
    }

pub first-base_nodes : (over d : LiveTree Lent) (b : ℕ) (base_nodes : List ℕ) → length (node_path over b) ≡ 2 → IsNode d (get_or base_nodes b 0) → is_standing d (get_or base_nodes b 0) ≡ true
    → AreBaseNodes over d (node_path d (get_or base_nodes b 0)) b (b + 1) base_nodes
first-base_nodes over d b base_nodes two known stands n from lt =
    let same : b ≡ n = omega (arith, from, lt) in
    let t = node_path d (get_or base_nodes b 0) in
    let here : IsBaseNode over d t b (get_or base_nodes b 0) = record { known = known; stands = stands; path = moved-top t (node_path over b) two } in
    subst (λ (m : ℕ). IsBaseNode over d t m (get_or base_nodes m 0)) same here

-- the body's own base node stands at the path below which the others are
pub own-path : (over d : LiveTree Lent) (t : Path) (b e : ℕ) (base_nodes : List ℕ) → length (node_path over b) ≡ 2 → b < e → AreBaseNodes over d t b e base_nodes → t ≡ node_path d (get_or base_nodes b 0)
own-path over d t b e base_nodes two more placed = moved-top t (node_path over b) two ∙ sym (placed b (omega arith) more).path

pub own-base_nodes : (over d : LiveTree Lent) (t : Path) (b e : ℕ) (base_nodes : List ℕ) → length (node_path over b) ≡ 2 → b < e → AreBaseNodes over d t b e base_nodes
    → AreBaseNodes over d (node_path d (get_or base_nodes b 0)) b e base_nodes
own-base_nodes over d t b e base_nodes two more placed = subst (λ (u : Path). AreBaseNodes over d u b e base_nodes) (own-path over d t b e base_nodes two more placed) placed

pub more-base_nodes : (over d d' : LiveTree Lent) (t : Path) (b n : ℕ) (base_nodes : List ℕ) (base_node : ℕ) → AreKept d d' → AreBaseNodes over d t b n base_nodes → n < length base_nodes → IsBaseNode over d' t n base_node
    → AreBaseNodes over d' t b (n + 1) (slice_set base_nodes n base_node)
more-base_nodes over d d' t b n base_nodes base_node kept placed room new m from lt = elim (cases_eq m n) [
  | inl same ↦
      subst (λ (j : ℕ). IsBaseNode over d' t j (get_or (slice_set base_nodes n base_node) j 0)) (sym same)
      (subst (λ (x : ℕ). IsBaseNode over d' t n x) (sym (get_or-set_same base_nodes n base_node 0 room)) new)
  | inr other ↦
      subst (λ (x : ℕ). IsBaseNode over d' t m x) (sym (get_or-set_other base_nodes n m base_node 0 other))
      (kept-base_node over d d' t m (get_or base_nodes m 0) kept (placed m from (omega (arith, lt, other))))
]

-- ---- one more that lies too deep, or not
or-assoc : (a b c : Bool) → ((a || b) || c) ≡ (a || (b || c))
or-assoc true b c = refl
or-assoc false b c = refl

pub or-false : (a : Bool) → a ≡ (a || false)
or-false true = refl
or-false false = refl

-- ---- the node of row k, with its base node
module _ (over : LiveTree Lent) (whole : IsWhole over) (ordered : IsOrdered over) (b : ℕ) (known : b ≤ length over.nodes.items) (top : length (node_path over b) ≡ 2) (t : Path)
    (d : LiveTree Lent) (base_nodes : List ℕ) (n k : ℕ) (at : n ≡ suc k) (r : NodeRow) (row : r ≡ row_at over.nodes.items k) (from : b < n) (lt : k < length over.nodes.items)
    (inside : IsInside over.nodes.items b n) (placed : AreBaseNodes over d t b n base_nodes) (low : b ≤ r.parent) where
  up : r.parent ≤ k
  up = let h = whole.sound.grown k in omega (arith, h, ap (λ x. x.parent) row)

  pub inside-more : IsInside over.nodes.items b (n + 1)
  inside-more j high below = elim (cases_eq j k) [
    | inl same ↦ omega (arith, low, ap (λ x. x.parent) row, ap (λ m. (row_at over.nodes.items m).parent) same)
    | inr other ↦ inside j high (omega (arith, below, at, other))
  ]

  inside-suc : IsInside over.nodes.items b (suc (suc k))
  inside-suc j high below = inside-more j high (omega (arith, below, at))

  pub parent-base_node : IsBaseNode over d t r.parent (get_or base_nodes r.parent 0)
  parent-base_node = placed r.parent low (omega (arith, up, at))

  pub path-new : node_path d (get_or base_nodes r.parent 0) ++ r.name.now ∷ [] ≡ moved t (node_path over n)
  path-new =
      ap (λ q. q ++ r.name.now ∷ []) parent-base_node.path
      ∙ moved-snoc t (node_path over r.parent) r.name.now (deeper over whole ordered b known top (suc (suc k)) (omega (arith, lt)) inside-suc r.parent r.parent (omega arith) low (omega (arith, up)))
      ∙ ap (moved t) (ap (λ x. node_path over x.parent ++ x.name.now ∷ []) row ∙ sym (path-step over.nodes.items whole.sound.grown k) ∙ ap (node_path over) (sym at))

  left-more : nodes_left over b t n ≡ moved t (node_path over n) ∷ nodes_left over b t (n + 1)
  left-more =
      ap (nodes_left over b t) at
      ∙ nodes-step over whole ordered b known top t k (omega (arith, from, at)) lt inside-suc
      ∙ ap (λ m. moved t (node_path over m) ∷ nodes_left over b t (m + 1)) (sym at)

  pub rest-more : (d' : LiveTree Lent) → state_of d' ≡ edits.with_node (node_path d (get_or base_nodes r.parent 0) ++ r.name.now ∷ []) (state_of d)
      → with_nodes (nodes_left over b t (n + 1)) (lists d').nodes ≡ with_nodes (nodes_left over b t n) (lists d).nodes
  rest-more d' state =
      ap (with_nodes (nodes_left over b t (n + 1))) (ap (λ s. s.nodes) state ∙ ap (λ p. with_node p (lists d).nodes) path-new)
      ∙ ap (λ ps. with_nodes ps (lists d).nodes) (sym left-more)

  pub deep-more : (x x' : Bool) → x' ≡ (x || is_too_deep (moved t (node_path over n))) → (x' || list_any is_too_deep (nodes_left over b t (n + 1))) ≡ (x || list_any is_too_deep (nodes_left over b t n))
  deep-more x x' e =
      let p = moved t (node_path over n) in
      ap (λ y. y || list_any is_too_deep (nodes_left over b t (n + 1))) e
      ∙ or-assoc x (is_too_deep p) (list_any is_too_deep (nodes_left over b t (n + 1)))
      ∙ ap (λ ps. x || list_any is_too_deep ps) (sym left-more)

  pub new-base_node : (d' : LiveTree Lent) (base_node : ℕ) → IsNode d' base_node → is_standing d' base_node ≡ true → node_path d' base_node ≡ node_path d (get_or base_nodes r.parent 0) ++ r.name.now ∷ [] → IsBaseNode over d' t n base_node
  new-base_node d' base_node there stands made = record { known = there; stands = stands; path = made ∙ path-new }
