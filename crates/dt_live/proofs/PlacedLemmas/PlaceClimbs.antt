-- From a node up to the root.
use Rattle.std.proofs.Common.{◌≡◌, ℕ, zero, suc, ◌<◌, ◌≤◌, Bool, true, not, ◌&&◌, nat_le, List, [], ◌∷◌, ◌++◌, refl, sym, ap, ap₂, ◌∙◌, arith}
use Rattle.std.proofs.lemmas.Bool.{and_parts, leb-true}
use Rattle.dt_live.specs.declared.placed.place.Place.{Place}
use Rattle.dt_live.specs.Placed.Rows.{climb, holds, holds_by, is_made, made_at, path_of, place_at}

abbrev pub IsGrown : {X : Type 0} → List (Place X) → Type 0
IsGrown rows = (k : ℕ) → (place_at rows k).owner ≤ k

-- ---- enough steps are enough
climb-enough : {X : Type 0} (rows : List (Place X)) → IsGrown rows → (f g n : ℕ) → n ≤ f → n ≤ g → climb f rows n ≡ climb g rows n
climb-enough rows grown zero zero n a b = refl
climb-enough rows grown zero (suc g) zero a b = refl
climb-enough rows grown zero (suc g) (suc k) a b = absurd (omega (arith, a))
climb-enough rows grown (suc f) zero zero a b = refl
climb-enough rows grown (suc f) zero (suc k) a b = absurd (omega (arith, b))
climb-enough rows grown (suc f) (suc g) zero a b = refl
climb-enough rows grown (suc f) (suc g) (suc k) a b =
    ap (λ p. p ++ (place_at rows k).name.now ∷ []) (climb-enough rows grown f g (place_at rows k).owner (omega (arith, grown k, a)) (omega (arith, grown k, b)))

holds-enough : {X : Type 0} (rows : List (Place X)) → IsGrown rows → (f g n : ℕ) → n ≤ f → n ≤ g → holds_by f rows n ≡ holds_by g rows n
holds-enough rows grown zero zero n a b = refl
holds-enough rows grown zero (suc g) zero a b = refl
holds-enough rows grown zero (suc g) (suc k) a b = absurd (omega (arith, a))
holds-enough rows grown (suc f) zero zero a b = refl
holds-enough rows grown (suc f) zero (suc k) a b = absurd (omega (arith, b))
holds-enough rows grown (suc f) (suc g) zero a b = refl
holds-enough rows grown (suc f) (suc g) (suc k) a b =
    ap (λ p. is_made rows (place_at rows k) && p) (holds-enough rows grown f g (place_at rows k).owner (omega (arith, grown k, a)) (omega (arith, grown k, b)))

-- one step up
pub path-step : {X : Type 0} (rows : List (Place X)) → IsGrown rows → (k : ℕ) → path_of rows (suc k) ≡ path_of rows (place_at rows k).owner ++ (place_at rows k).name.now ∷ []
path-step rows grown k =
    ap (λ p. p ++ (place_at rows k).name.now ∷ []) (climb-enough rows grown k (place_at rows k).owner (place_at rows k).owner (grown k) (omega arith))

pub holds-step : {X : Type 0} (rows : List (Place X)) → IsGrown rows → (k : ℕ) → holds rows (suc k) ≡ (is_made rows (place_at rows k) && holds rows (place_at rows k).owner)
holds-step rows grown k =
    ap (λ p. is_made rows (place_at rows k) && p) (holds-enough rows grown k (place_at rows k).owner (place_at rows k).owner (grown k) (omega arith))

-- ---- rows that agree up to a number
pub path-same : {X : Type 0} (old new : List (Place X)) (m : ℕ) → IsGrown old
    → ((k : ℕ) → k < m → (place_at new k).owner ≡ (place_at old k).owner) → ((k : ℕ) → k < m → (place_at new k).name.now ≡ (place_at old k).name.now)
    → (f n : ℕ) → n ≤ m → climb f new n ≡ climb f old n
path-same old new m grown owners names zero n le = refl
path-same old new m grown owners names (suc f) zero le = refl
path-same old new m grown owners names (suc f) (suc k) le =
    ap (λ p. climb f new p ++ (place_at new k).name.now ∷ []) (owners k (omega (arith, le)))
    ∙ ap (λ q. q ++ (place_at new k).name.now ∷ []) (path-same old new m grown owners names f (place_at old k).owner (omega (arith, grown k, le)))
    ∙ ap (λ x. climb f old (place_at old k).owner ++ x ∷ []) (names k (omega (arith, le)))

pub made-same : {X : Type 0} (old new : List (Place X)) (m : ℕ) → ((k : ℕ) → k < m → place_at new k ≡ place_at old k) → (n : ℕ) → n ≤ m → made_at new n ≡ made_at old n
made-same old new m same zero le = refl
made-same old new m same (suc k) le = ap (λ r. r.made) (same k (omega (arith, le)))

pub holds-same : {X : Type 0} (old new : List (Place X)) (m : ℕ) → IsGrown old → ((k : ℕ) → k < m → place_at new k ≡ place_at old k)
    → (f n : ℕ) → n ≤ m → holds_by f new n ≡ holds_by f old n
holds-same old new m grown same zero n le = refl
holds-same old new m grown same (suc f) zero le = refl
holds-same {X} old new m grown same (suc f) (suc k) le =
    let here = same k (omega (arith, le)) in
    let r = place_at old k in
    ap (λ (x : Place X). is_made new x && holds_by f new x.owner) here
    ∙ ap₂ (λ (t : ℕ) (b : Bool). (not r.removed && nat_le t r.made) && b) (made-same old new m same r.owner (omega (arith, grown k, le))) (holds-same old new m grown same f r.owner (omega (arith, grown k, le)))

-- ---- what stands was made
pub made-first : {X : Type 0} (rows : List (Place X)) → IsGrown rows → (f n : ℕ) → n ≤ f → holds rows n ≡ true → 1 ≤ made_at rows n
made-first rows grown f zero le there = omega arith
made-first rows grown zero (suc k) le there = absurd (omega (arith, le))
made-first rows grown (suc f) (suc k) le there =
    let r = place_at rows k in
    let up = and_parts (is_made rows r) (holds rows r.owner) (sym (holds-step rows grown k) ∙ there) in
    let since = (and_parts (not r.removed) (nat_le (made_at rows r.owner) r.made) up.0).1 in
    omega (arith, leb-true (made_at rows r.owner) r.made since, made-first rows grown f r.owner (omega (arith, grown k, le)) up.1)
