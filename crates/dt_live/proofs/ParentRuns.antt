-- A node with all below it, told by parents.
use Rattle.std.proofs.Common.{◌≡◌, inl, inr, ℕ, zero, suc, ◌+◌, ◌-◌, ◌≤◌, ◌<◌, true, ◌||◌, [], ◌∷◌, ◌++◌, length, take, refl, sym, ap, ◌∙◌, subst, length-append, arith}
use Rattle.std.proofs.lemmas.Bool.{cases_eq, cases_lt}
use Rattle.std.proofs.lemmas.List.{length-take-le}
use Rattle.dt_source.specs.TreeMeaning.Paths.{Path, same_path, is_within}
use Rattle.dt_live.specs.declared.live_tree.LiveTree.{LiveTree}
use Rattle.dt_live.specs.Rows.{IsNode, path_of, row_at}
use Rattle.dt_live.proofs.Climbs.{path-step}
use Rattle.dt_live.proofs.PathTests.{snoc-parts, within-itself, within-snoc}
use Rattle.dt_live.specs.Flattened.{Lent, IsWhole, IsOrdered}
use Rattle.dt_live.specs.Runs.{IsRun}
use Rattle.dt_live.proofs.BuilderLemmas.PathFacts.{within-is}
use Rattle.dt_live.proofs.PathRuns.{take-keeps, within-by}
use Rattle.dt_live.proofs.RunsBelow.{follows, reached}

module _ (d : LiveTree Lent) (whole : IsWhole d) (ordered : IsOrdered d) (n e : ℕ) (from : n ≤ e) (known : IsNode d e) where
  abbrev path : ℕ → Path
  path m = path_of d.nodes.items m

  abbrev parent : ℕ → ℕ
  parent k = (row_at d.nodes.items k).parent

  module _ (inner : (k : ℕ) → n ≤ k → k < e → n ≤ parent k) (last : e < length d.nodes.items → parent e < n) where
    abbrev IsBelow : ℕ → Type 0
    IsBelow m = (length (path n) < length (path m)) × (is_within (path n) (path m) ≡ true)

    -- right below a node that is n, or below it
    one-below : (k : ℕ) → length (path n) ≤ length (path (parent k)) → is_within (path n) (path (parent k)) ≡ true → IsBelow (suc k)
    one-below k long w =
        let r = row_at d.nodes.items k in
        let step = path-step d.nodes.items whole.sound.grown k in (
          omega (arith, ap length step, length-append (path r.parent) (r.name.now ∷ [])),
          ap (is_within (path n)) step ∙ within-snoc (path n) (path r.parent) r.name.now ∙ ap (λ b. b || same_path (path n) (path r.parent ++ r.name.now ∷ [])) w,
        )

    right-below : (k : ℕ) → parent k ≡ n → IsBelow (suc k)
    right-below k same = one-below k (omega (arith, ap (λ m. length (path m)) same)) (ap (λ m. is_within (path n) (path m)) same ∙ within-itself (path n))

    all-below : (f k : ℕ) → k ≤ f → n ≤ k → k < e → IsBelow (suc k)
    all-below zero k fuel low high = right-below k (omega (arith, whole.sound.grown k))
    all-below (suc f) k fuel low high = elim (cases_eq (parent k) n) [
      | inl same ↦ right-below k same
      | inr other ↦
          let up : parent k ≡ suc (parent k - 1) = omega (arith, other, inner k low high) in
          let r = all-below f (parent k - 1) (omega (arith, whole.sound.grown k)) (omega (arith, other, inner k low high)) (omega (arith, whole.sound.grown k)) in
          one-below k (omega (arith, r.0, ap (λ m. length (path m)) up)) (ap (λ m. is_within (path n) (path m)) up ∙ r.1)
    ]

    below-by : (m : ℕ) → n < m → m ≤ e → IsBelow m
    below-by m low high =
        let at : suc (m - 1) ≡ m = omega (arith, low) in
        subst IsBelow at (all-below (m - 1) (m - 1) (omega arith) (omega arith) (omega arith))

    last-within : is_within (path n) (path e) ≡ true
    last-within = elim (cases_eq n e) [
      | inl same ↦ ap (λ m. is_within (path n) (path m)) (sym same) ∙ within-itself (path n)
      | inr other ↦ (below-by e (omega (arith, other)) (omega arith)).1
    ]

    ends-behind : (i : ℕ) → e ≡ suc i → e < length d.nodes.items → length (path (suc e)) ≤ length (path n)
    ends-behind i is more =
        let b = path n in
        let r = row_at d.nodes.items e in
        let f = follows d whole ordered i (omega (arith, is)) in
        let step : path (suc e) ≡ path r.parent ++ r.name.now ∷ [] = path-step d.nodes.items whole.sound.grown e in
        let after : path (suc e) ≡ take f.levels (path (suc i)) ++ f.name ∷ [] = ap (λ m. path (suc m)) is ∙ f.path in
        let above = snoc-parts (path r.parent) (take f.levels (path (suc i))) r.name.now f.name (sym step ∙ after) in
        let deep : length (path (suc e)) ≡ f.levels + 1 =
        ap length after ∙ length-append (take f.levels (path (suc i))) (f.name ∷ []) ∙ ap (λ k. k + 1) (length-take-le f.levels (path (suc i)) f.within) in
        elim (cases_lt f.levels (length b)) [
          | inl short ↦ omega (arith, deep)
          | inr long ↦
              let w = within-is b (path (suc i)) (ap (λ m. is_within b (path m)) (sym is) ∙ last-within) in
              let kept = take-keeps b w.0 f.levels long in
              let up = within-by b (path r.parent) (kept.0, above.0 ∙ ap (take f.levels) w.1 ∙ kept.1) in
              let low = last more in
              let high = reached d whole ordered n r.parent r.parent (omega arith) (omega arith) (omega (arith, whole.sound.grown e)) up in
              omega arith
        ]

    pub parents-run : IsRun d n e
    parents-run = record {
      from = from;
      known = known;
      longer = λ m low high. (below-by m low high).0;
      ends = λ more. by_last e refl more;
    } where
      by_last : (k : ℕ) → e ≡ k → e < length d.nodes.items → length (path (e + 1)) ≤ length (path n)
      by_last zero is more = let low = last more in omega (arith, from, is)
      by_last (suc i) is more =
          let at : e + 1 ≡ suc e = omega arith in
          let short = ends-behind i is more in
          omega (arith, ap (λ m. length (path m)) at)
