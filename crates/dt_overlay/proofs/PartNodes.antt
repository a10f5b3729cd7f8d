-- A node of the overlay with all below it stands together, in the order of rows.
use Rattle.std.proofs.Common.{◌≡◌, ◌≢◌, inl, inr, ℕ, zero, suc, ◌+◌, ◌≤◌, ◌<◌, Bool, true, false, ◌&&◌, ◌||◌, List, [], ◌∷◌, ◌++◌, length, map, take, refl, sym, ap, ◌∙◌, subst, true≢false, arith}
use Rattle.std.specs.Str.{bytes_eq}
use Rattle.std.proofs.lemmas.Bool.{and_parts, cases_eq}
use Rattle.std.proofs.lemmas.List.{length_push}
use Rattle.dt_source.specs.TreeMeaning.Paths.{Path, same_path, is_within}
use Rattle.dt_live.specs.Builder.Standing.{AreFollowed, Follows}
use Rattle.dt_live.specs.declared.live_tree.LiveTree.{LiveTree}
use Rattle.dt_live.specs.declared.live_tree.NodeRow.{NodeRow}
use Rattle.dt_live.specs.Rows.{node_path, row_at}
use Rattle.dt_live.proofs.Climbs.{path-step}
use Rattle.dt_live.proofs.PathTests.{same-is, within-itself, within-snoc}
use Rattle.dt_live.specs.Flattened.{IsOrdered, IsWhole, Lent, nodes_from}
use Rattle.dt_live.proofs.WholeTrees.{one-number}
use Rattle.dt_overlay.specs.Private.Merging.{IsInside, IsPart}

-- ---- tests of paths
not-same-by : (p q : Path) (b : Bool) → same_path p q ≡ b → (p ≢ q) → b ≡ false
not-same-by p q true e apart = absurd (apart (same-is p q e))
not-same-by p q false e apart = refl

or-none : (a b : Bool) → b ≡ false → (a || b) ≡ a
or-none true b e = refl
or-none false b e = e

within-nothing : (p : Path) → length p ≡ 2 → is_within p [] ≡ false
within-nothing [] two = absurd (omega (arith, two))
within-nothing (x ∷ xs) two = refl

within-front : (p q : Path) (l : ℕ) → is_within p (take l q) ≡ true → is_within p q ≡ true
within-front [] q l e = refl
within-front (x ∷ xs) [] zero e = e
within-front (x ∷ xs) [] (suc l) e = e
within-front (x ∷ xs) (y ∷ ys) zero e = absurd (true≢false (sym e))
within-front (x ∷ xs) (y ∷ ys) (suc l) e =
    let parts = and_parts (bytes_eq x y) (is_within xs (take l ys)) e in
    ap (λ b. b && is_within xs ys) parts.0 ∙ within-front xs ys l parts.1

not-within-front : (p q : Path) (l : ℕ) (b : Bool) → is_within p (take l q) ≡ b → is_within p q ≡ false → b ≡ false
not-within-front p q l true e out = absurd (true≢false (sym (within-front p q l e) ∙ out))
not-within-front p q l false e out = refl

followed-at : (path : ℕ → Path) (k m : ℕ) → AreFollowed (map path (nodes_from k m)) → (n : ℕ) → k ≤ n → suc n < k + m → Follows (path n) (path (suc n))
followed-at path k zero f n le lt = absurd (omega arith)
followed-at path k (suc zero) f n le lt = absurd (omega arith)
followed-at path k (suc (suc m)) f n le lt = elim (cases_eq k n) [
  | inl same ↦
      let next : k + 1 ≡ suc n = omega (arith, same) in
      subst (λ (j : ℕ). Follows (path n) (path j)) next (subst (λ (j : ℕ). Follows (path j) (path (k + 1))) same f.0)
  | inr other ↦ followed-at path (k + 1) (suc m) f.1 n (omega (arith, other)) (omega arith)
]

module _ (d : LiveTree Lent) (whole : IsWhole d) (ordered : IsOrdered d) (b : ℕ) (known : b ≤ length d.nodes.items) (top : length (node_path d b) ≡ 2) where
  abbrev rows : List NodeRow
  rows = d.nodes.items

  abbrev path : ℕ → Path
  path n = node_path d n

  abbrev pub within : ℕ → Bool
  within n = is_within (path b) (path n)

  abbrev step : (k : ℕ) → path (suc k) ≡ path (row_at rows k).parent ++ (row_at rows k).name.now ∷ []
  step k = path-step rows whole.sound.grown k

  other-path : (k : ℕ) → k < length rows → suc k ≢ b → same_path (path b) (path (row_at rows k).parent ++ (row_at rows k).name.now ∷ []) ≡ false
  other-path k lt other =
      let q = path (row_at rows k).parent ++ (row_at rows k).name.now ∷ [] in
      not-same-by (path b) q (same_path (path b) q) refl (λ e. other (sym (one-number d whole.sound whole.stand b (suc k) known (omega arith) (e ∙ sym (step k)))))

  -- a node is within where the one above it is
  within-up : (k : ℕ) → k < length rows → suc k ≢ b → within (suc k) ≡ within (row_at rows k).parent
  within-up k lt other =
      let r = row_at rows k in
      ap (is_within (path b)) (step k) ∙ within-snoc (path b) (path r.parent) r.name.now
      ∙ or-none (within r.parent) (same_path (path b) (path r.parent ++ r.name.now ∷ [])) (other-path k lt other)

  -- none before it
  pub none-before : (f n : ℕ) → n ≤ f → n < b → within n ≡ false
  none-before f zero le lt = within-nothing (path b) top
  none-before zero (suc k) le lt = absurd (omega arith)
  none-before (suc f) (suc k) le lt =
      let up = whole.sound.grown k in
      within-up k (omega arith) (λ e. absurd (omega (arith, e))) ∙ none-before f (row_at rows k).parent (omega (arith, up)) (omega (arith, up))

  -- those that have parents among them, and they lie deeper
  module _ (e : ℕ) (end : e ≤ suc (length rows)) (inside : IsInside rows b e) where
    pub all-inside : (f n : ℕ) → n ≤ f → b ≤ n → n < e → within n ≡ true
    all-inside f zero le from lt = let same : b ≡ 0 = omega arith in ap (λ j. is_within (path b) (path j)) (sym same) ∙ within-itself (path b)
    all-inside zero (suc k) le from lt = absurd (omega arith)
    all-inside (suc f) (suc k) le from lt = elim (cases_eq (suc k) b) [
      | inl same ↦ ap (λ j. is_within (path b) (path j)) same ∙ within-itself (path b)
      | inr other ↦
          let up = whole.sound.grown k in
          within-up k (omega arith) other ∙ all-inside f (row_at rows k).parent (omega (arith, up)) (inside k (omega (arith, other)) lt) (omega (arith, up))
    ]

    pub deeper : (f n : ℕ) → n ≤ f → b ≤ n → n < e → 2 ≤ length (path n)
    deeper f zero le from lt = let same : b ≡ 0 = omega arith in omega (arith, top, ap (λ j. length (path j)) same)
    deeper zero (suc k) le from lt = absurd (omega arith)
    deeper (suc f) (suc k) le from lt = elim (cases_eq (suc k) b) [
      | inl same ↦ omega (arith, top, ap (λ j. length (path j)) same)
      | inr other ↦
          let r = row_at rows k in
          let up = whole.sound.grown k in
          let above = deeper f r.parent (omega (arith, up)) (inside k (omega (arith, other)) lt) (omega (arith, up)) in
          omega (arith, above, ap length (step k), length_push (path r.parent) r.name.now)
    ]

    pub all-deeper : (k : ℕ) → b ≤ k → suc k < e → 2 < length (path (suc k))
    all-deeper k from lt =
        let r = row_at rows k in
        let up = whole.sound.grown k in
        let above = deeper k r.parent up (inside k from lt) (omega (arith, up)) in
        omega (arith, above, ap length (step k), length_push (path r.parent) r.name.now)

  -- none behind them
  module _ (e : ℕ) (part : IsPart rows b e) where
    first-behind : (k : ℕ) → e ≡ suc k → k < length rows → within (suc k) ≡ false
    first-behind k at lt =
        let out = part.behind k at lt in
        within-up k lt (λ same. absurd (omega (arith, same, at, part.more))) ∙ none-before (row_at rows k).parent (row_at rows k).parent (omega arith) out

    pub none-behind : (m n : ℕ) → n ≡ e + m → n ≤ length rows → within n ≡ false
    none-behind zero zero at le = absurd (omega (arith, at, part.more))
    none-behind zero (suc k) at le = first-behind k (omega (arith, at)) (omega arith)
    none-behind (suc m) zero at le = absurd (omega (arith, at))
    none-behind (suc m) (suc k) at le =
        let before = none-behind m k (omega (arith, at)) (omega arith) in
        let f : Follows (path k) (path (suc k)) = followed-at path 1 (length rows) (subst AreFollowed ordered.nodes ordered.followed) k (omega (arith, at, part.more)) (omega arith) in
        let q = take f.levels (path k) in
        let unlike : same_path (path b) (q ++ f.name ∷ []) ≡ false = not-same-by (path b) (q ++ f.name ∷ []) (same_path (path b) (q ++ f.name ∷ [])) refl
        (λ e'. absurd (omega (arith, at, part.more, one-number d whole.sound whole.stand b (suc k) known le (e' ∙ sym f.path)))) in
        ap (is_within (path b)) f.path ∙ within-snoc (path b) q f.name
        ∙ or-none (is_within (path b) q) (same_path (path b) (q ++ f.name ∷ [])) unlike
        ∙ not-within-front (path b) (path k) f.levels (is_within (path b) q) refl before
