-- A node with all below it, in the rows of a flattened tree.
use Rattle.std.proofs.Common.{◌≡◌, ◌⊎◌, inl, inr, ℕ, zero, suc, ◌+◌, ◌-◌, ◌≤◌, ◌<◌, Bool, true, false, not, ◌&&◌, ◌||◌, List, [], ◌∷◌, ◌++◌, length, get_or, map, take, drop, refl, sym, ap, ap₂, ◌∙◌, append-nil, subst, true≢false, arith}
use Rattle.std.specs.Prelude.{nat_le}
use Rattle.std.specs.List.{filter}
use Rattle.std.proofs.lemmas.Bool.{cases_lt, le-leb, lt-leb}
use Rattle.std.proofs.lemmas.List.{length-map}
use Rattle.dt_source.specs.TreeMeaning.Paths.{Path, same_path, is_within, is_below}
use Rattle.dt_live.specs.Builder.Standing.{AreFollowed, Follows}
use Rattle.dt_live.proofs.BuilderLemmas.InTurn.{followed-at}
use Rattle.dt_live.proofs.BuilderLemmas.PathFacts.{Within}
use Rattle.dt_live.specs.declared.live_tree.LiveTree.{LiveTree}
use Rattle.dt_live.specs.declared.live_tree.PropertyRow.{PropertyRow}
use Rattle.dt_live.specs.Rows.{IsNode, no_property, path_of, property_at, row_at}
use Rattle.dt_live.proofs.Climbs.{path-step}
use Rattle.dt_live.proofs.Keeping.{below-not-itself}
use Rattle.dt_live.proofs.PathTests.{same-is, within-snoc}
use Rattle.dt_live.specs.Flattened.{Lent, lists, nodes_from, first_nodes, IsWhole, IsOrdered}
use Rattle.dt_live.specs.Runs.{ArePropertiesOf, IsRun, is_from_to}
use Rattle.dt_live.proofs.Behind.{false-by}
use Rattle.dt_live.proofs.WholeTrees.{all-entries, one-number}
use Rattle.dt_live.proofs.PathRuns.{within-by, still-within, before-within, no-longer}
use Rattle.dt_live.proofs.Ranges.{from-length, from-at, numbers-taken, items-taken, Reaches, place-of}
use Rattle.dt_live.proofs.WholeRows.{entry}

either : (s t : Bool) → (s || t) ≡ true → (s ≡ true) ⊎ (t ≡ true)
either true t e = inl refl
either false t e = inr e

module _ (d : LiveTree Lent) (whole : IsWhole d) (ordered : IsOrdered d) where
  abbrev path : ℕ → Path
  path n = path_of d.nodes.items n

  abbrev count : ℕ
  count = length d.nodes.items

  alone : (n m : ℕ) → n ≤ count → m ≤ count → path n ≡ path m → n ≡ m
  alone = one-number d whole.sound whole.stand

  -- ---- rows follow each other
  pub follows : (i : ℕ) → suc i < count → Follows (path (suc i)) (path (suc (suc i)))
  follows i lt =
      let xs = map path (first_nodes count) in
      let long : length xs ≡ count = length-map (first_nodes count) path ∙ from-length 1 count in
      let f = followed-at xs i (subst AreFollowed ordered.nodes ordered.followed) (omega (arith, long)) in
      let one : 1 + i ≡ suc i = omega arith in
      let two : 1 + suc i ≡ suc (suc i) = omega arith in
      let first : get_or xs i [] ≡ path (suc i) = from-at path 1 count i [] (omega arith) ∙ ap path one in
      let second : get_or xs (suc i) [] ≡ path (suc (suc i)) = from-at path 1 count (suc i) [] lt ∙ ap path two in
      subst (λ (q : Path). Follows (path (suc i)) q) second (subst (λ (p : Path). Follows p (get_or xs (suc i) [])) first f)

  -- a node doesn't stand before one that it is below
  pub reached : (n f m : ℕ) → n ≤ count → m ≤ f → m ≤ count → is_within (path n) (path m) ≡ true → n ≤ m
  reached n f zero known fuel le w = omega (arith, alone n 0 known le (sym (no-longer (path n) [] w (omega arith))))
  reached n zero (suc k) known fuel le w = absurd (omega arith)
  reached n (suc f) (suc k) known fuel le w =
      let r = row_at d.nodes.items k in
      let step = path-step d.nodes.items whole.sound.grown k in
      let up : r.parent ≤ k = whole.sound.grown k in
      elim (either (is_within (path n) (path r.parent)) (same_path (path n) (path r.parent ++ r.name.now ∷ []))
      (sym (within-snoc (path n) (path r.parent) r.name.now) ∙ ap (is_within (path n)) (sym step) ∙ w)) [
        | inl above ↦ let low = reached n f r.parent known (omega arith) (omega arith) above in omega arith
        | inr same ↦ omega (arith, alone n (suc k) known le (same-is (path n) (path r.parent ++ r.name.now ∷ []) same ∙ sym step))
      ]

  module _ (n e : ℕ) (run : IsRun d n e) where
    known : n ≤ count
    known = omega (arith, run.from, run.known)

    other : (m : ℕ) → m ≤ count → n < m → same_path (path n) (path m) ≡ false
    other m le lt = false-by (same_path (path n) (path m)) (λ same. absurd (omega (arith, alone n m known le (same-is (path n) (path m) same))))

    -- the nodes of the run
    inside-from : (j k : ℕ) → n ≡ suc k → n + j ≤ e → Within (path n) (path (n + j))
    inside-from zero k is le =
        let none_more : n + 0 ≡ n = omega arith in
        ([], ap path none_more ∙ sym (append-nil (path n)))
    inside-from (suc j) k is le =
        let i = k + j in
        let here : n + j ≡ suc i = omega (arith, is) in
        let next : suc (suc i) ≡ n + suc j = omega (arith, is) in
        let w = inside-from j k is (omega arith) in
        let q = still-within (path n) (path (suc i)) (path (suc (suc i))) (follows i (omega (arith, is, run.known)))
        (subst (λ (m : ℕ). Within (path n) (path m)) here w) (run.longer (suc (suc i)) (omega (arith, is)) (omega (arith, is))) in
        subst (λ (m : ℕ). Within (path n) (path m)) next q

    inside : (m : ℕ) → n ≤ m → m ≤ e → is_within (path n) (path m) ≡ true
    inside m low high = by_node n refl where
      by_node : (k : ℕ) → n ≡ k → is_within (path n) (path m) ≡ true
      by_node zero is = ap (λ k. is_within (path k) (path m)) is
      by_node (suc k) is = within-by (path n) (path m) (subst (λ (j : ℕ). Within (path n) (path j)) (omega (arith, low)) (inside-from (m - n) k is (omega arith)))

    -- the nodes behind it
    behind-from : (j : ℕ) → suc e + j ≤ count → is_within (path n) (path (suc (e + j))) ≡ false
    behind-from zero le = false-by (is_within (path n) (path (suc (e + 0)))) (λ w.
        let at : suc (e + 0) ≡ e + 1 = omega arith in
        let short = run.ends (omega arith) in
        let same : path (e + 1) ≡ path n = no-longer (path n) (path (e + 1)) (ap (λ m. is_within (path n) (path m)) (sym at) ∙ w) short in
        omega (arith, alone (e + 1) n (omega arith) known same, run.from))
    behind-from (suc j) le = false-by (is_within (path n) (path (suc (e + suc j)))) (λ w.
        let i = e + j in
        let at : suc (e + suc j) ≡ suc (suc i) = omega arith in
        let before = before-within (path n) (path (suc i)) (path (suc (suc i))) (follows i (omega arith)) (ap (λ m. is_within (path n) (path m)) (sym at) ∙ w)
        (other (suc (suc i)) (omega arith) (omega (arith, run.from))) in
        true≢false (sym before ∙ behind-from j (omega arith)))

    behind : (m : ℕ) → e < m → m ≤ count → is_within (path n) (path m) ≡ false
    behind m lt le =
        let at : m ≡ suc (e + (m - suc e)) = omega arith in
        ap (λ k. is_within (path n) (path k)) at ∙ behind-from (m - suc e) (omega arith)

    before : (m : ℕ) → m < n → m ≤ count → is_within (path n) (path m) ≡ false
    before m lt le = false-by (is_within (path n) (path m)) (λ w. let r = reached n m m known (omega arith) le w in omega arith)

    and-false : (b : Bool) → (b && false) ≡ false
    and-false true = refl
    and-false false = refl

    pub all-within : (m : ℕ) → IsNode d m → is_within (path n) (path m) ≡ is_from_to n e m
    all-within m le = elim (cases_lt m n) [
      | inl low ↦ before m low le ∙ sym (ap (λ b. b && nat_le m e) (lt-leb n m low))
      | inr from ↦ elim (cases_lt e m) [
        | inl past ↦ behind m past le ∙ sym (ap (λ b. nat_le n m && b) (lt-leb m e past) ∙ and-false (nat_le n m))
        | inr to ↦ inside m from to ∙ sym (ap₂ (λ a b. a && b) (le-leb n m from) (le-leb m e to))
      ]
    ]

    -- ---- lists of nodes
    pub nodes-within : 1 ≤ n → filter (λ q. is_within (path n) q) (lists d).nodes ≡ map path (nodes_from n (e - n + 1))
    nodes-within first =
        ap (filter (λ q. is_within (path n) q)) ordered.nodes
        ∙ numbers-taken path (λ q. is_within (path n) q) count 1 n (e - n + 1) first (omega (arith, run.from, run.known))
        (λ i le lt. inside i le (omega (arith, run.from)))
        (λ i le lt. before i lt (omega (arith, known)))
        (λ i le lt. behind i (omega (arith, run.from)) (omega arith))

    pub nodes-below : filter (λ q. is_below (path n) q) (lists d).nodes ≡ map path (nodes_from (n + 1) (e - n))
    nodes-below =
        ap (filter (λ q. is_below (path n) q)) ordered.nodes
        ∙ numbers-taken path (λ q. is_below (path n) q) count 1 (n + 1) (e - n) (omega arith) (omega (arith, run.from, run.known))
        (λ i le lt. ap₂ (λ a b. a && not b) (inside i (omega arith) (omega (arith, run.from))) (other i (omega (arith, run.from, run.known)) (omega arith)))
        (λ i le lt. elim (cases_lt i n) [
          | inl low ↦ ap (λ a. a && not (same_path (path n) (path i))) (before i low (omega (arith, known)))
          | inr from ↦ let at : i ≡ n = omega arith in ap (λ k. is_below (path n) (path k)) at ∙ below-not-itself (path n)
        ])
        (λ i le lt. ap (λ a. a && not (same_path (path n) (path i))) (behind i (omega (arith, run.from)) (omega arith)))

    -- ---- properties
    module _ (low high : ℕ) (are : ArePropertiesOf d n e low high) where
      abbrev rows : List (PropertyRow Lent)
      rows = d.properties.items

      row-known : (i : ℕ) → (property_at rows i).node ≤ count
      row-known = whole.sound.known

      pub properties-within : filter (λ x. is_within (path n) x.path) (lists d).properties ≡ map (entry path) (take (high - low) (drop low rows))
      properties-within =
          ap (filter (λ x. is_within (path n) x.path)) (all-entries d whole.sound whole.stand whole.valued)
          ∙ items-taken (entry path) (λ x. is_within (path n) x.path) no_property rows low (high - low) (omega (arith, are.from, are.known))
          (λ i le lt. let at = are.inside i le (omega (arith, are.from)) in inside (property_at rows i).node at.0 at.1)
          (λ i lt. before (property_at rows i).node (are.before i lt) (row-known i))
          (λ i le lt. behind (property_at rows i).node (are.behind i (omega (arith, are.from)) lt) (row-known i))

pub properties-found : (d : LiveTree Lent) → IsOrdered d → (n e : ℕ) → n ≤ e → (low : ℕ) × (high : ℕ) × ArePropertiesOf d n e low high
properties-found d ordered n e le =
    let number : PropertyRow Lent → ℕ = λ r. r.node in
    let from = place-of number no_property n d.properties.items ordered.properties in
    let to = place-of number no_property (e + 1) d.properties.items ordered.properties in (
      from.0,
      to.0,
      record {
        from = in-turn from.0 to.0 from.1 to.1;
        known = to.1.known;
        before = from.1.before;
        inside = λ i low lt. (from.1.behind i low (omega (arith, to.1.known)), omega (arith, to.1.before i lt));
        behind = λ i high lt. omega (arith, to.1.behind i high lt);
      },
    ) where
      in-turn : (low high : ℕ) → Reaches (λ r. r.node) no_property d.properties.items n low → Reaches (λ r. r.node) no_property d.properties.items (e + 1) high → low ≤ high
      in-turn low high a b = elim (cases_lt high low) [
        | inl wrong ↦ absurd (omega (arith, a.before high wrong, b.behind high (omega arith) (omega (arith, a.known))))
        | inr right ↦ right
      ]
