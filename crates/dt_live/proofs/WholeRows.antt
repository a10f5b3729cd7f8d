-- Rows of which none was removed.
use Rattle.std.proofs.Common.{◌≡◌, ℕ, zero, suc, ◌+◌, ◌≤◌, ◌<◌, Bool, true, false, not, List, [], ◌∷◌, ◌++◌, length, map, get_or, IsSome, if◌then◌else◌, refl, sym, ap, ap₂, ◌∙◌, true≢false, arith}
use Rattle.std.specs.List.{All, list_all}
use Rattle.std.proofs.lemmas.Bool.{and_parts, and_from}
use Rattle.std.proofs.lemmas.List.{map-append}
use Rattle.std.proofs.lemmas.List.Elements.{All-head, All-tail}
use Rattle.dt_source.specs.TreeMeaning.Paths.{Path}
use Rattle.dt_source.specs.TreeMeaning.Edits.{Definition, definition}
use Rattle.dt_live.specs.declared.live_tree.NodeRow.{NodeRow}
use Rattle.dt_live.specs.declared.live_tree.PropertyRow.{PropertyRow}
use Rattle.dt_live.specs.declared.live_tree.LabelRow.{LabelRow}
use Rattle.dt_live.specs.Rows.{no_row, row_at, stands, standing, valued, standing_properties, property_at, worn, label_at, IsGrown}
use Rattle.dt_live.proofs.Climbs.{stands-step}
use Rattle.dt_live.proofs.PropertyRows.{some-of}
use Rattle.dt_live.specs.Flattened.{Lent, plain, nodes_from, first_nodes}
use Rattle.dt_live.specs.ByRow.{lent}

abbrev pub Entry : Type 0
Entry = Definition (List ℕ)

pub all-at : {A : Type 0} (test : A → Bool) (xs : List A) (k : ℕ) (d : A) → list_all test xs ≡ true → k < length xs → test (get_or xs k d) ≡ true
all-at test [] k d e lt = absurd (omega arith)
all-at test (x ∷ xs) zero d e lt = (and_parts (test x) (list_all test xs) e).0
all-at test (x ∷ xs) (suc k) d e lt = all-at test xs k d (and_parts (test x) (list_all test xs) e).1 (omega arith)

-- ---- nodes
pub stands-all : (rows : List NodeRow) → IsGrown rows → list_all (λ r. not r.removed) rows ≡ true → (f n : ℕ) → n ≤ f → n ≤ length rows → stands rows n ≡ true
stands-all rows grown there f zero le known = refl
stands-all rows grown there zero (suc k) le known = absurd (omega arith)
stands-all rows grown there (suc f) (suc k) le known =
    stands-step rows grown k
    ∙ and_from (not (row_at rows k).removed) (stands rows (row_at rows k).parent) (all-at (λ r. not r.removed) rows k no_row there (omega arith))
    (stands-all rows grown there f (row_at rows k).parent (omega (arith, grown k)) (omega (arith, grown k)))

last-from : (k n : ℕ) → nodes_from k (suc n) ≡ nodes_from k n ++ (k + n) ∷ []
last-from k zero = ap (λ m. m ∷ []) (omega arith)
last-from k (suc n) = ap (λ ms. k ∷ ms) (last-from (k + 1) n ∙ ap (λ m. nodes_from (k + 1) n ++ m ∷ []) (omega arith))

-- where all nodes stand, they are listed in order
pub standing-all : (p : ℕ → Path) (g : ℕ → Bool) (n : ℕ) → ((k : ℕ) → k ≤ n → g k ≡ true) → standing p g n ≡ map p (first_nodes n)
standing-all p g zero there = refl
standing-all p g (suc n) there =
    ap₂ (λ ps b. ps ++ (if b then p (suc n) ∷ [] else [])) (standing-all p g n (λ k le. there k (omega arith))) (there (suc n) (omega arith))
    ∙ sym (ap (map p) (last-from 1 n) ∙ map-append p (first_nodes n) ((1 + n) ∷ []) ∙ ap (λ m. map p (first_nodes n) ++ p m ∷ []) (omega arith))

-- ---- properties
-- the property of a row
abbrev pub entry : (ℕ → Path) → PropertyRow Lent → Entry
entry p r = definition (p r.node) r.name.now (lent r.value)

abbrev pub HasValue : PropertyRow Lent → Type 0
HasValue r = IsSome r.value

pub standing_properties-all : (p : ℕ → Path) (g : ℕ → Bool) (rs : List (PropertyRow Lent)) → ((i : ℕ) → g (property_at rs i).node ≡ true) → All HasValue rs → map plain (standing_properties p g rs) ≡ map (entry p) rs
standing_properties-all p g [] there has = refl
standing_properties-all p g (r ∷ rs) there has =
    let w = some-of r.value (All-head HasValue r rs has) in
    ap₂ (λ b o. map plain ((if b then valued (p r.node) r.name.now o else []) ++ standing_properties p g rs)) (there 0) w.1
    ∙ ap (λ o. definition (p r.node) r.name.now (lent o) ∷ map plain (standing_properties p g rs)) (sym w.1)
    ∙ ap (λ es. entry p r ∷ es) (standing_properties-all p g rs (λ i. there (suc i)) (All-tail HasValue r rs has))

-- ---- labels
pub worn-none : (p : ℕ → Path) (g : ℕ → Bool) (ls : List LabelRow) → ((i : ℕ) → g (label_at ls i).node ≡ true) → worn p g ls ≡ [] → ls ≡ []
worn-none p g [] there none = refl
worn-none p g (l ∷ ls) there gone =
    absurd (some-label (g l.node) (there 0) gone) where
      some-label : (b : Bool) → b ≡ true → (if b then record { label = l.label.now; path = p l.node } ∷ [] else []) ++ worn p g ls ≡ [] → ⊥
      some-label true e h = omega (arith, ap length h)
      some-label false e h = true≢false (sym e)
