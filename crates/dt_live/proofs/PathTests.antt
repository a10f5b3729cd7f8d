-- Tests of paths.
use Rattle.std.proofs.Common.{◌≡◌, ◌≢◌, ℕ, Bool, true, false, ◌&&◌, ◌||◌, List, [], ◌∷◌, ◌++◌, refl, sym, ap, ap₂, ◌∙◌, true≢false}
use Rattle.std.specs.Str.{bytes_eq}
use Rattle.std.proofs.lemmas.Bool.{and_parts, and_from}
use Rattle.std.proofs.lemmas.Slice.Eq.{bytes_eq-Decides}
use Rattle.dt_source.specs.TreeMeaning.Paths.{Path, same_path, is_within}

pub same-itself : (p : Path) → same_path p p ≡ true
same-itself [] = refl
same-itself (x ∷ xs) = and_from (bytes_eq x x) (same_path xs xs) ((bytes_eq-Decides x x).1 refl) (same-itself xs)

pub same-is : (p q : Path) → same_path p q ≡ true → p ≡ q
same-is [] [] e = refl
same-is [] (y ∷ ys) e = absurd (true≢false (sym e))
same-is (x ∷ xs) [] e = absurd (true≢false (sym e))
same-is (x ∷ xs) (y ∷ ys) e =
    let parts = and_parts (bytes_eq x y) (same_path xs ys) e in
    ap₂ (λ a b. a ∷ b) ((bytes_eq-Decides x y).0 parts.0) (same-is xs ys parts.1)

pub within-itself : (p : Path) → is_within p p ≡ true
within-itself [] = refl
within-itself (x ∷ xs) = and_from (bytes_eq x x) (is_within xs xs) ((bytes_eq-Decides x x).1 refl) (within-itself xs)

and_or : (a b c : Bool) → (a && (b || c)) ≡ ((a && b) || (a && c))
and_or true b c = refl
and_or false b c = refl

or-or-false : (a : Bool) → a ≡ (a || false)
or-or-false true = refl
or-or-false false = refl

and-false : (a : Bool) → false ≡ (a && false)
and-false true = refl
and-false false = refl

-- what is at or below a path, one level further down
pub within-snoc : (p q : Path) (n : List ℕ) → is_within p (q ++ n ∷ []) ≡ (is_within p q || same_path p (q ++ n ∷ []))
within-snoc [] q n = refl
within-snoc (x ∷ []) [] n = refl
within-snoc (x ∷ y ∷ ys) [] n = refl
within-snoc (x ∷ xs) (y ∷ ys) n =
    ap (λ b. bytes_eq x y && b) (within-snoc xs ys n) ∙ and_or (bytes_eq x y) (is_within xs ys) (same_path xs (ys ++ n ∷ []))

no-end : (ys : Path) (b : List ℕ) → [] ≢ (ys ++ b ∷ [])
no-end [] b e = cc
no-end (y ∷ ys) b e = cc

pub snoc-parts : (xs ys : Path) (a b : List ℕ) → xs ++ a ∷ [] ≡ ys ++ b ∷ [] → (xs ≡ ys) × (a ≡ b)
snoc-parts [] [] a b e = (refl, cc)
snoc-parts [] (y ∷ ys) a b e = let h : [] ≡ (ys ++ b ∷ []) = cc in absurd (no-end ys b h)
snoc-parts (x ∷ xs) [] a b e = let h : (xs ++ a ∷ []) ≡ [] = cc in absurd (no-end xs a (sym h))
snoc-parts (x ∷ xs) (y ∷ ys) a b e =
    let h : (xs ++ a ∷ []) ≡ (ys ++ b ∷ []) = cc in
    let f : x ≡ y = cc in
    let r = snoc-parts xs ys a b h in (ap₂ (λ p q. p ∷ q) f r.0, r.1)

pub snoc-some : (xs : Path) (a : List ℕ) → (xs ++ a ∷ []) ≢ []
snoc-some xs a e = no-end xs a (sym e)

-- no path that has a name is above the root
pub within-root : (xs : Path) (a : List ℕ) → is_within (xs ++ a ∷ []) [] ≡ false
within-root [] a = refl
within-root (x ∷ xs) a = refl
