-- The phandles of rows: the greatest, and whether they differ.
use Rattle.std.proofs.Common.{◌≡◌, ℕ, ◌+◌, ◌<◌, ◌≤◌, ◌==◌, max, Bool, true, false, not, ◌&&◌, ◌||◌, List, [], ◌∷◌, ◌++◌, map, drop, length, Option, Some, None, unwrap_or, refl, ap, ap₂, sym, ◌∙◌, true≢false, arith}
use Rattle.std.specs.List.{list_all}
use Rattle.std.proofs.lemmas.Bool.Decides.{nat_tests}
use Rattle.std.proofs.lemmas.List.{at_drop_more, drop_all}
use Rattle.dt_source.specs.TreeMeaning.Paths.{Path}
use Rattle.dt_source.specs.TreeMeaning.Phandles.{PathPhandle, path_phandle, has_phandle}
use Rattle.dt_live.specs.declared.live_tree.LiveTree.{LiveTree}
use Rattle.dt_live.specs.declared.live_tree.PropertyRow.{PropertyRow}
use Rattle.dt_live.specs.Rows.{no_property}
use Rattle.dt_live.specs.ByRow.{defined_by, row_property}
use Rattle.dt_live.specs.Flattened.{Lent, IsWhole, lists}
use Rattle.dt_live.proofs.WholeTrees.{all-entries}
use Rattle.dt_source.specs.OverlayMeaning.Shifted.{differ, greatest, path_phandles, phandle_of, phandles}
use Rattle.dt_overlay.proofs.FixupLemmas.RowSites.{eqb-swap}

-- the phandles of the rows from one on
abbrev pub phandles_from : LiveTree Lent → ℕ → List PathPhandle
phandles_from d i = phandles (map (defined_by d) (drop i d.properties.items))

pub at-row : (d : LiveTree Lent) (i : ℕ) → i < length d.properties.items → phandles_from d i ≡ path_phandles (row_property d i).path (phandle_of (row_property d i)) ++ phandles_from d (i + 1)
at-row d i within = at_drop_more (λ (ys : List (PropertyRow Lent)). phandles (map (defined_by d) ys)) d.properties.items i no_property within

pub whole-phandles : (d : LiveTree Lent) → IsWhole d → phandles (lists d).properties ≡ phandles_from d 0
whole-phandles d whole = ap phandles (all-entries d whole.sound whole.stand whole.valued)

pub at-end : (d : LiveTree Lent) (i : ℕ) → length d.properties.items ≤ i → phandles_from d i ≡ []
at-end d i le = ap (λ ys. phandles (map (defined_by d) ys)) (drop_all i d.properties.items le)

-- ---- the greatest
greatest-by : (p : Path) (o : Option ℕ) (xs : List PathPhandle) (m t : ℕ) → t ≡ max m (unwrap_or o 0) → max m (greatest (path_phandles p o ++ xs)) ≡ max t (greatest xs)
greatest-by p None xs m t is = omega (arith, is)
greatest-by p (Some n) xs m t is = grind (arith, nat_tests)

pub greatest-more : (d : LiveTree Lent) (i m t w : ℕ) → i < length d.properties.items → t ≡ max m (unwrap_or (phandle_of (row_property d i)) 0)
    → w ≡ max m (greatest (phandles_from d i)) → w ≡ max t (greatest (phandles_from d (i + 1)))
greatest-more d i m t w within is before =
    before ∙ ap (λ xs. max m (greatest xs)) (at-row d i within) ∙ greatest-by (row_property d i).path (phandle_of (row_property d i)) (phandles_from d (i + 1)) m t is

pub greatest-end : (d : LiveTree Lent) (i m w : ℕ) → length d.properties.items ≤ i → w ≡ max m (greatest (phandles_from d i)) → m ≡ w
greatest-end d i m w le before = omega (arith, before, ap greatest (at-end d i le))

-- ---- whether they differ
-- none of the numbers was met
abbrev pub are_new : (ℕ → Bool) → List PathPhandle → Bool
are_new met xs = list_all (λ x. not (met x.phandle)) xs

and-false : (b : Bool) → (b && false) ≡ false
and-false true = refl
and-false false = refl

new-step : (a b c e : Bool) → (not (a || b) && (not c && e)) ≡ (not (a || c) && (not b && e))
new-step true b c e = refl
new-step false true c e = sym (and-false (not c))
new-step false false true e = refl
new-step false false false e = refl

new-more : (met met' : ℕ → Bool) (n : ℕ) → ((m : ℕ) → met' m ≡ ((n == m) || met m)) → (xs : List PathPhandle) → are_new met' xs ≡ (not (has_phandle n xs) && are_new met xs)
new-more met met' n more [] = refl
new-more met met' n more (x ∷ xs) =
    ap₂ (λ a b. not a && b) (more x.phandle ∙ ap (λ t. t || met x.phandle) (eqb-swap n x.phandle)) (new-more met met' n more xs)
    ∙ new-step (x.phandle == n) (met x.phandle) (has_phandle n xs) (are_new met xs)

and-step : (h f g m : Bool) → m ≡ false → ((h && f) && (not m && g)) ≡ (f && (h && g))
and-step h f g true e = absurd (true≢false e)
and-step true f g false e = refl
and-step false f g false e = sym (and-false f)

pub distinct-more : (d : LiveTree Lent) (i n : ℕ) (met met' : ℕ → Bool) (whole : Bool) → i < length d.properties.items → Some n ≡ phandle_of (row_property d i)
    → ((m : ℕ) → met' m ≡ ((n == m) || met m)) → met n ≡ false
    → (differ (phandles_from d i) && are_new met (phandles_from d i)) ≡ whole
    → (differ (phandles_from d (i + 1)) && are_new met' (phandles_from d (i + 1))) ≡ whole
distinct-more d i n met met' whole within is more new before =
    let xs = phandles_from d (i + 1) in
    let p = (row_property d i).path in
    ap (λ b. differ xs && b) (new-more met met' n more xs)
    ∙ sym (and-step (not (has_phandle n xs)) (differ xs) (are_new met xs) (met n) new)
    ∙ ap (λ o. differ (path_phandles p o ++ xs) && are_new met (path_phandles p o ++ xs)) is
    ∙ sym (ap (λ ys. differ ys && are_new met ys) (at-row d i within)) ∙ before

pub distinct-same : (d : LiveTree Lent) (i : ℕ) (met : ℕ → Bool) (whole : Bool) → i < length d.properties.items → None ≡ phandle_of (row_property d i)
    → (differ (phandles_from d i) && are_new met (phandles_from d i)) ≡ whole
    → (differ (phandles_from d (i + 1)) && are_new met (phandles_from d (i + 1))) ≡ whole
distinct-same d i met whole within is before =
    let xs = phandles_from d (i + 1) in
    let p = (row_property d i).path in
    ap (λ o. differ (path_phandles p o ++ xs) && are_new met (path_phandles p o ++ xs)) is
    ∙ sym (ap (λ ys. differ ys && are_new met ys) (at-row d i within)) ∙ before

and-met : (h g m : Bool) → m ≡ true → false ≡ (h && (not m && g))
and-met h g true e = sym (and-false h)
and-met h g false e = absurd (true≢false (sym e))

pub distinct-stops : (d : LiveTree Lent) (i n : ℕ) (met : ℕ → Bool) (whole : Bool) → i < length d.properties.items → Some n ≡ phandle_of (row_property d i) → met n ≡ true
    → (differ (phandles_from d i) && are_new met (phandles_from d i)) ≡ whole → false ≡ whole
distinct-stops d i n met whole within is known before =
    let xs = phandles_from d (i + 1) in
    let p = (row_property d i).path in
    and-met (differ (path_phandle p n ∷ xs)) (are_new met xs) (met n) known
    ∙ ap (λ o. differ (path_phandles p o ++ xs) && are_new met (path_phandles p o ++ xs)) is
    ∙ sym (ap (λ ys. differ ys && are_new met ys) (at-row d i within)) ∙ before

pub distinct-end : (d : LiveTree Lent) (i : ℕ) (met : ℕ → Bool) (whole : Bool) → length d.properties.items ≤ i
    → (differ (phandles_from d i) && are_new met (phandles_from d i)) ≡ whole → true ≡ whole
distinct-end d i met whole le before = sym (ap (λ ys. differ ys && are_new met ys) (at-end d i le)) ∙ before

all-new : (met : ℕ → Bool) → ((n : ℕ) → met n ≡ false) → (xs : List PathPhandle) → are_new met xs ≡ true
all-new met none [] = refl
all-new met none (x ∷ xs) = ap₂ (λ a b. not a && b) (none x.phandle) (all-new met none xs)

and-true : (b : Bool) → (b && true) ≡ b
and-true true = refl
and-true false = refl

pub distinct-start : (d : LiveTree Lent) (met : ℕ → Bool) → ((n : ℕ) → met n ≡ false) → (differ (phandles_from d 0) && are_new met (phandles_from d 0)) ≡ differ (phandles_from d 0)
distinct-start d met none = ap (λ b. differ (phandles_from d 0) && b) (all-new met none (phandles_from d 0)) ∙ and-true (differ (phandles_from d 0))
