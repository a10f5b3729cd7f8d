-- From a node up to the root.
use Rattle.std.proofs.Common.{◌≡◌, ◌≢◌, inl, inr, ℕ, zero, suc, ◌<◌, ◌≤◌, Bool, true, false, not, ◌&&◌, ◌||◌, List, [], ◌∷◌, ◌++◌, Some, refl, sym, ap, ap₂, ◌∙◌, true≢false, arith}
use Rattle.std.proofs.lemmas.Bool.{and_parts, cases_eq}
use Rattle.dt_live.specs.declared.live_tree.NodeRow.{NodeRow}
use Rattle.dt_source.specs.TreeMeaning.Paths.{Path, same_path, is_within}
use Rattle.dt_live.specs.Rows.{Found, row_at, climb, path_of, stands_by, stands, IsGrown, IsNodeIndex}
use Rattle.dt_live.proofs.PathTests.{same-is, within-itself, within-snoc, within-root, snoc-parts, snoc-some}

-- ---- enough steps are enough
pub climb-enough : (rows : List NodeRow) → IsGrown rows → (f g n : ℕ) → n ≤ f → n ≤ g → climb f rows n ≡ climb g rows n
climb-enough rows grown zero zero n a b = refl
climb-enough rows grown zero (suc g) zero a b = refl
climb-enough rows grown zero (suc g) (suc k) a b = absurd (omega arith)
climb-enough rows grown (suc f) zero zero a b = refl
climb-enough rows grown (suc f) zero (suc k) a b = absurd (omega arith)
climb-enough rows grown (suc f) (suc g) zero a b = refl
climb-enough rows grown (suc f) (suc g) (suc k) a b =
    ap (λ p. p ++ (row_at rows k).name.now ∷ []) (climb-enough rows grown f g (row_at rows k).parent (omega (arith, grown k)) (omega (arith, grown k)))

pub stands-enough : (rows : List NodeRow) → IsGrown rows → (f g n : ℕ) → n ≤ f → n ≤ g → stands_by f rows n ≡ stands_by g rows n
stands-enough rows grown zero zero n a b = refl
stands-enough rows grown zero (suc g) zero a b = refl
stands-enough rows grown zero (suc g) (suc k) a b = absurd (omega arith)
stands-enough rows grown (suc f) zero zero a b = refl
stands-enough rows grown (suc f) zero (suc k) a b = absurd (omega arith)
stands-enough rows grown (suc f) (suc g) zero a b = refl
stands-enough rows grown (suc f) (suc g) (suc k) a b =
    ap (λ p. not (row_at rows k).removed && p) (stands-enough rows grown f g (row_at rows k).parent (omega (arith, grown k)) (omega (arith, grown k)))

-- one step up
pub path-step : (rows : List NodeRow) → IsGrown rows → (k : ℕ) → path_of rows (suc k) ≡ path_of rows (row_at rows k).parent ++ (row_at rows k).name.now ∷ []
path-step rows grown k =
    ap (λ p. p ++ (row_at rows k).name.now ∷ []) (climb-enough rows grown k (row_at rows k).parent (row_at rows k).parent (grown k) (omega arith))

pub stands-step : (rows : List NodeRow) → IsGrown rows → (k : ℕ) → stands rows (suc k) ≡ (not (row_at rows k).removed && stands rows (row_at rows k).parent)
stands-step rows grown k =
    ap (λ p. not (row_at rows k).removed && p) (stands-enough rows grown k (row_at rows k).parent (row_at rows k).parent (grown k) (omega arith))

-- ---- rows that agree up to a number
pub climb-same : (old new : List NodeRow) (m : ℕ) → IsGrown old
    → ((k : ℕ) → k < m → (row_at new k).parent ≡ (row_at old k).parent) → ((k : ℕ) → k < m → (row_at new k).name.now ≡ (row_at old k).name.now)
    → (f n : ℕ) → n ≤ m → climb f new n ≡ climb f old n
climb-same old new m grown parents names zero n le = refl
climb-same old new m grown parents names (suc f) zero le = refl
climb-same old new m grown parents names (suc f) (suc k) le =
    ap (λ p. climb f new p ++ (row_at new k).name.now ∷ []) (parents k (omega arith))
    ∙ ap (λ q. q ++ (row_at new k).name.now ∷ []) (climb-same old new m grown parents names f (row_at old k).parent (omega (arith, grown k)))
    ∙ ap (λ x. climb f old (row_at old k).parent ++ x ∷ []) (names k (omega arith))

pub stands-same : (old new : List NodeRow) (m : ℕ) → IsGrown old
    → ((k : ℕ) → k < m → (row_at new k).parent ≡ (row_at old k).parent) → ((k : ℕ) → k < m → (row_at new k).removed ≡ (row_at old k).removed)
    → (f n : ℕ) → n ≤ m → stands_by f new n ≡ stands_by f old n
stands-same old new m grown parents marks zero n le = refl
stands-same old new m grown parents marks (suc f) zero le = refl
stands-same old new m grown parents marks (suc f) (suc k) le =
    ap (λ p. not (row_at new k).removed && stands_by f new p) (parents k (omega arith))
    ∙ ap (λ q. not (row_at new k).removed && q) (stands-same old new m grown parents marks f (row_at old k).parent (omega (arith, grown k)))
    ∙ ap (λ x. not x && stands_by f old (row_at old k).parent) (marks k (omega arith))

pub not-true : (b : Bool) → not b ≡ true → b ≡ false
not-true true e = absurd (true≢false (sym e))
not-true false e = refl

some-is : {A : Type 0} (x y : A) → Some x ≡ Some y → x ≡ y
some-is x y e = cc

-- ---- two nodes that stand don't have one path
pub one-node : (rows : List NodeRow) (index : Found) → IsGrown rows → IsNodeIndex rows index
    → (f n m : ℕ) → n ≤ f → stands rows n ≡ true → stands rows m ≡ true → path_of rows n ≡ path_of rows m → n ≡ m
one-node rows index grown indexed f zero zero le a b e = refl
one-node rows index grown indexed f zero (suc k) le a b e = absurd (snoc-some (path_of rows (row_at rows k).parent) (row_at rows k).name.now (sym (path-step rows grown k) ∙ sym e))
one-node rows index grown indexed f (suc k) zero le a b e = absurd (snoc-some (path_of rows (row_at rows k).parent) (row_at rows k).name.now (sym (path-step rows grown k) ∙ e))
one-node rows index grown indexed zero (suc k) (suc j) le a b e = absurd (omega arith)
one-node rows index grown indexed (suc f) (suc k) (suc j) le a b e =
    let x = row_at rows k in
    let y = row_at rows j in
    let sa = and_parts (not x.removed) (stands rows x.parent) (sym (stands-step rows grown k) ∙ a) in
    let sb = and_parts (not y.removed) (stands rows y.parent) (sym (stands-step rows grown j) ∙ b) in
    let parts = snoc-parts (path_of rows x.parent) (path_of rows y.parent) x.name.now y.name.now (sym (path-step rows grown k) ∙ e ∙ path-step rows grown j) in
    let above = one-node rows index grown indexed f x.parent y.parent (omega (arith, grown k)) sa.1 sb.1 parts.0 in
    some-is (suc k) (suc j)
    (sym (indexed.whole k (not-true x.removed sa.0))
    ∙ ap₂ (λ n i. index n i) above parts.1
    ∙ indexed.whole j (not-true y.removed sb.0))

-- ---- a node is marked: what stands is what stood, but for the node and all below it
marked-one : (mark other up same : Bool) → ((not mark && up) ≡ true → same ≡ false) → (not mark && (up && not other)) ≡ ((not mark && up) && not (other || same))
marked-one true other up same apart = refl
marked-one false true true same apart = refl
marked-one false true false same apart = refl
marked-one false false true true apart = absurd (true≢false (apart refl))
marked-one false false true false apart = refl
marked-one false false false true apart = refl
marked-one false false false false apart = refl

and-not-true : (a : Bool) → false ≡ (a && not true)
and-not-true true = refl
and-not-true false = refl

or-true : (a : Bool) → true ≡ (a || true)
or-true true = refl
or-true false = refl

not-same-by : (p q : Path) (b : Bool) → same_path p q ≡ b → (p ≢ q) → b ≡ false
not-same-by p q true e apart = absurd (apart (same-is p q e))
not-same-by p q false e apart = refl

not-same : (p q : Path) → (p ≢ q) → same_path p q ≡ false
not-same p q apart = not-same-by p q (same_path p q) refl apart

pub suc-is : (k i : ℕ) → suc k ≡ suc i → k ≡ i
suc-is k i e = omega arith

pub stands-marked : (old new : List NodeRow) (index : Found) (i : ℕ) → IsGrown old → IsGrown new → IsNodeIndex old index
    → ((k : ℕ) → (row_at new k).parent ≡ (row_at old k).parent) → ((k : ℕ) → k ≢ i → (row_at new k).removed ≡ (row_at old k).removed) → (row_at new i).removed ≡ true
    → stands old (suc i) ≡ true → (f n : ℕ) → n ≤ f
    → stands new n ≡ (stands old n && not (is_within (path_of old (suc i)) (path_of old n)))
stands-marked old new index i grown grown' indexed parents others mark there f zero le =
    let x = row_at old i in
    sym (ap (λ p. not (is_within p [])) (path-step old grown i) ∙ ap not (within-root (path_of old x.parent) x.name.now))
stands-marked old new index i grown grown' indexed parents others mark there zero (suc k) le = absurd (omega arith)
stands-marked old new index i grown grown' indexed parents others mark there (suc f) (suc k) le = elim (cases_eq k i) [
  | inl same ↦
      stands-step new grown' k
      ∙ ap (λ b. not b && stands new (row_at new k).parent) (ap (λ j. (row_at new j).removed) same ∙ mark)
      ∙ and-not-true (stands old (suc k))
      ∙ ap (λ b. stands old (suc k) && not b) (sym (within-itself (path_of old (suc i))) ∙ ap (λ j. is_within (path_of old (suc i)) (path_of old (suc j))) (sym same))
  | inr other ↦
      let x = row_at old k in
      let p = path_of old (suc i) in
      stands-step new grown' k
      ∙ ap₂ (λ b n. not b && stands new n) (others k other) (parents k)
      ∙ ap (λ b. not x.removed && b) (stands-marked old new index i grown grown' indexed parents others mark there f x.parent (omega (arith, grown k)))
      ∙ marked-one x.removed (is_within p (path_of old x.parent)) (stands old x.parent) (same_path p (path_of old x.parent ++ x.name.now ∷ []))
      (λ stood. not-same p (path_of old x.parent ++ x.name.now ∷ []) (λ e. other (suc-is k i (sym (one-node old index grown indexed (suc i) (suc i) (suc k) (omega arith) there (stands-step old grown k ∙ stood) (e ∙ sym (path-step old grown k)))))))
      ∙ ap₂ (λ a b. a && not b) (sym (stands-step old grown k)) (sym (within-snoc p (path_of old x.parent) x.name.now))
      ∙ ap (λ q. stands old (suc k) && not (is_within p q)) (sym (path-step old grown k))
]

-- above a node that wasn't removed itself
pub stands-above : (rows : List NodeRow) → IsGrown rows → (n k : ℕ) → n ≡ suc k → (row_at rows k).removed ≡ false → stands rows (row_at rows k).parent ≡ stands rows n
stands-above rows grown n k is kept =
    sym (ap (λ m. stands rows m) is ∙ stands-step rows grown k ∙ ap (λ b. not b && stands rows (row_at rows k).parent) kept)

-- a node that was removed itself
pub stands-not : (rows : List NodeRow) → IsGrown rows → (n k : ℕ) → n ≡ suc k → (row_at rows k).removed ≡ true → stands rows n ≡ false
stands-not rows grown n k is gone =
    ap (λ m. stands rows m) is ∙ stands-step rows grown k ∙ ap (λ b. not b && stands rows (row_at rows k).parent) gone
