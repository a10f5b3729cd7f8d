-- Paths, the names below them, and lists of them.
use Rattle.std.proofs.Common.{◌≡◌, ℕ, ◌≤◌, Bool, true, false, not, ◌||◌, List, [], ◌∷◌, ◌++◌, length, Option, Some, None, is_some, if◌then◌else◌, refl, sym, ap, ap₂, ◌∙◌, subst, append_assoc, append-nil, true≢false, arith}
use Rattle.std.specs.List.{list_any}
use Rattle.std.specs.Str.{bytes_eq}
use Rattle.std.proofs.lemmas.Bool.{and_parts, and_from}
use Rattle.std.proofs.lemmas.Bool.Decides.{nat_tests}
use Rattle.std.proofs.lemmas.Slice.Eq.{bytes_eq-Decides}
use Rattle.dt_tree.specs.declared.limits.TheConstants.{MAX_DEPTH}
use Rattle.dt_source.specs.TreeMeaning.Paths.{Path, same_path, is_within, is_listed, name_below}
use Rattle.dt_source.specs.TreeMeaning.Resolved.{is_too_deep}

-- ---- tests
pub or-false : (a b : Bool) → (a || b) ≡ false → (a ≡ false) × (b ≡ false)
or-false true b e = absurd (true≢false e)
or-false false b e = (refl, e)

pub or-right : (a b : Bool) → b ≡ true → (a || b) ≡ true
or-right true b e = refl
or-right false b e = e

pub not-both : {A : Type 0} (b : Bool) → b ≡ true → b ≡ false → A
not-both b e f = absurd (true≢false (sym e ∙ f))

pub not-true : (b : Bool) → not b ≡ true → b ≡ false
not-true true e = sym e
not-true false e = refl

pub some-of : {A : Type 0} (o : Option A) → is_some o ≡ true → (a : A) × (o ≡ Some a)
some-of None e = absurd (true≢false (sym e))
some-of (Some a) e = (a, refl)

-- ---- one path
pub bytes-itself : (x : List ℕ) → bytes_eq x x ≡ true
bytes-itself x = (bytes_eq-Decides x x).1 refl

pub same-itself : (p : Path) → same_path p p ≡ true
same-itself [] = refl
same-itself (x ∷ xs) = and_from (bytes_eq x x) (same_path xs xs) (bytes-itself x) (same-itself xs)

pub same-is : (p q : Path) → same_path p q ≡ true → p ≡ q
same-is [] [] e = refl
same-is [] (y ∷ ys) e = absurd (true≢false (sym e))
same-is (x ∷ xs) [] e = absurd (true≢false (sym e))
same-is (x ∷ xs) (y ∷ ys) e =
    let parts = and_parts (bytes_eq x y) (same_path xs ys) e in
    ap₂ (λ a b. a ∷ b) ((bytes_eq-Decides x y).0 parts.0) (same-is xs ys parts.1)

pub other-side : (p q : Path) → same_path p q ≡ false → same_path q p ≡ false
other-side p q e = by_same (same_path q p) refl where
  by_same : (t : Bool) → same_path q p ≡ t → t ≡ false
  by_same true same = not-both (same_path p q) (ap (same_path p) (same-is q p same) ∙ same-itself p) e
  by_same false same = refl

pub below-is : (p x : Path) (n : List ℕ) → name_below p x ≡ Some n → x ≡ p ++ n ∷ []
below-is [] [] n e = absurd (cc)
below-is [] (m ∷ []) n e = let h : m ≡ n = cc in ap (λ k. k ∷ []) h
below-is [] (m ∷ k ∷ ks) n e = absurd (cc)
below-is (y ∷ ys) [] n e = absurd (cc)
below-is (y ∷ ys) (z ∷ zs) n e = by_first y ys z zs n (bytes_eq y z) refl e (below-is ys zs n) where
  by_first : (y : List ℕ) (ys : Path) (z : List ℕ) (zs : Path) (n : List ℕ) (t : Bool) → bytes_eq y z ≡ t → (if t then name_below ys zs else None) ≡ Some n
      → (name_below ys zs ≡ Some n → zs ≡ ys ++ n ∷ []) → z ∷ zs ≡ y ∷ (ys ++ n ∷ [])
  by_first y ys z zs n true same e ih = ap₂ (λ a b. a ∷ b) (sym ((bytes_eq-Decides y z).0 same)) (ih e)
  by_first y ys z zs n false same e ih = absurd (cc)

pub below-child : (p : Path) (n : List ℕ) → name_below p (p ++ n ∷ []) ≡ Some n
below-child [] n = refl
below-child (x ∷ xs) n = rw (bytes-itself x) (below-child xs n)

-- a child, and its name
pub child-is : (p x : Path) → is_some (name_below p x) ≡ true → (n : List ℕ) × (x ≡ p ++ n ∷ [])
child-is p x e = let n = some-of (name_below p x) e in (n.0, below-is p x n.0 n.1)

-- what stands behind the same path
pub next-names : (p : Path) (a b : List ℕ) (s t : Path) → p ++ a ∷ s ≡ p ++ b ∷ t → a ≡ b
next-names [] a b s t e = cc
next-names (x ∷ xs) a b s t e = let h : (xs ++ a ∷ s) ≡ (xs ++ b ∷ t) = cc in next-names xs a b s t h

-- a path that is the first or below it
abbrev pub Within : Path → Path → Type 0
Within c x = (s : Path) × (x ≡ c ++ s)

pub within-is : (p q : Path) → is_within p q ≡ true → Within p q
within-is [] q w = (q, refl)
within-is (x ∷ xs) [] w = absurd (true≢false (sym w))
within-is (x ∷ xs) (y ∷ ys) w =
    let parts = and_parts (bytes_eq x y) (is_within xs ys) w in
    let rest = within-is xs ys parts.1 in
    (rest.0, ap₂ (λ a b. a ∷ b) (sym ((bytes_eq-Decides x y).0 parts.0)) rest.1)

pub within-step : (c x y : Path) → Within c x → is_some (name_below x y) ≡ true → Within c y
within-step c x y w child =
    let n = child-is x y child in (w.0 ++ n.0 ∷ [], n.1 ∙ ap (λ z. z ++ n.0 ∷ []) w.1 ∙ append_assoc c w.0 (n.0 ∷ []))

onto : (P : Path → Type 0) → ((q : Path) (n : List ℕ) → P (q ++ n ∷ [])) → (s p : Path) → P p → P (p ++ s)
onto P child [] p h = subst P (sym (append-nil p)) h
onto P child (n ∷ s) p h = subst P (append_assoc p (n ∷ []) s) (onto P child s (p ++ n ∷ []) (child p n))

-- a path is the root's, or has a last name
pub by_last : (P : Path → Type 0) → P [] → ((q : Path) (n : List ℕ) → P (q ++ n ∷ [])) → (p : Path) → P p
by_last P root child p = onto P child p [] root

-- ---- lists of paths
pub listed-first : (x : Path) (xs : List Path) → is_listed x (x ∷ xs) ≡ true
listed-first x xs = ap (λ b. b || is_listed x xs) (same-itself x)

pub listed-next : (y x : Path) (xs : List Path) → is_listed y xs ≡ true → is_listed y (x ∷ xs) ≡ true
listed-next y x xs l = or-right (same_path y x) (is_listed y xs) l

pub not-deep : (xs : List Path) (x : Path) → list_any is_too_deep xs ≡ false → is_listed x xs ≡ true → length x ≤ MAX_DEPTH
not-deep [] x d l = absurd (true≢false (sym l))
not-deep (y ∷ ys) x d l =
    let parts = or-false (is_too_deep y) (list_any is_too_deep ys) d in
    by_same y ys x (same_path x y) refl l parts.0 (not-deep ys x parts.1) where
      shallow : (y : Path) → is_too_deep y ≡ false → length y ≤ MAX_DEPTH
      shallow y e = grind (arith, nat_tests)

      by_same : (y : Path) (ys : List Path) (x : Path) (t : Bool) → same_path x y ≡ t → (t || is_listed x ys) ≡ true → is_too_deep y ≡ false → (is_listed x ys ≡ true → length x ≤ MAX_DEPTH) → length x ≤ MAX_DEPTH
      by_same y ys x true same l d ih = let e : length x ≡ length y = ap length (same-is x y same) in let s = shallow y d in omega arith
      by_same y ys x false same l d ih = ih l

-- no path that is elsewhere is this one
pub listed-other : (p x : Path) (xs : List Path) → is_listed p xs ≡ false → is_listed x xs ≡ true → same_path p x ≡ false
listed-other p x xs gone there = by_same p x xs (same_path p x) refl gone there where
  by_same : (p x : Path) (xs : List Path) (t : Bool) → same_path p x ≡ t → is_listed p xs ≡ false → is_listed x xs ≡ true → t ≡ false
  by_same p x xs true same gone there = not-both (is_listed p xs) (ap (λ y. is_listed y xs) (same-is p x same) ∙ there) gone
  by_same p x xs false same gone there = refl
