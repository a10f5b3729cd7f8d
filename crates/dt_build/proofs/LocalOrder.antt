-- Paths that are listed again and again, in runs: each once, in the order of the runs.
use Rattle.std.proofs.Common.{◌≡◌, ℕ, Bool, true, false, not, ◌&&◌, ◌||◌, List, [], ◌∷◌, ◌++◌, map, if◌then◌else◌, cond, refl, sym, ap, ap₂, ◌∙◌, true≢false}
use Rattle.std.specs.List.{filter, flat_map}
use Rattle.std.proofs.lemmas.Bool.{and_parts, or_from}
use Rattle.std.specs.Str.{bytes_eq}
use Rattle.dt_source.specs.TreeMeaning.Paths.{Path, same_path, is_listed}
use Rattle.dt_source.specs.TreeMeaning.Phandles.{new_ones}
use Rattle.dt_live.proofs.Each.{Each}
use Rattle.dt_live.specs.Builder.Standing.{are_apart}
use Rattle.dt_live.proofs.BuilderLemmas.PathFacts.{listed-first, listed-next, not-both, not-true, same-is}

-- ---- what was seen
pub ones-same : (seen other xs : List Path) → ((q : Path) → is_listed q xs ≡ true → is_listed q seen ≡ is_listed q other) → new_ones seen xs ≡ new_ones other xs
ones-same seen other [] same = refl
ones-same seen other (x ∷ xs) same =
    ap (λ b. if b then new_ones seen xs else x ∷ new_ones (x ∷ seen) xs) (same x (listed-first x xs))
    ∙ ap₂ (λ a c. if is_listed x other then a else x ∷ c) (ones-same seen other xs (λ q l. same q (listed-next q x xs l)))
    (ones-same (x ∷ seen) (x ∷ other) xs (λ q l. ap (λ b. same_path q x || b) (same q (listed-next q x xs l))))

module _ (f : Path → Bool) where
  pub listed-kept : (q : Path) (xs : List Path) → is_listed q (filter f xs) ≡ true → f q ≡ true
  listed-kept q [] l = absurd (true≢false (sym l))
  listed-kept q (x ∷ xs) l = by_test (f x) refl l (listed-kept q xs) where
    by_same : (t : Bool) → same_path q x ≡ t → f x ≡ true → (t || is_listed q (filter f xs)) ≡ true → (is_listed q (filter f xs) ≡ true → f q ≡ true) → f q ≡ true
    by_same true same is l rest = ap f (same-is q x same) ∙ is
    by_same false same is l rest = rest l

    by_test : (t : Bool) → f x ≡ t → is_listed q (cond t (x ∷ filter f xs) (filter f xs)) ≡ true → (is_listed q (filter f xs) ≡ true → f q ≡ true) → f q ≡ true
    by_test true is l rest = by_same (same_path q x) refl is l rest
    by_test false is l rest = rest l

  -- a path that isn't kept doesn't matter
  unseen : (x : Path) (seen xs : List Path) → f x ≡ false → new_ones (x ∷ seen) (filter f xs) ≡ new_ones seen (filter f xs)
  unseen x seen xs is = ones-same (x ∷ seen) seen (filter f xs) (λ q l. ap (λ b. b || is_listed q seen) (by_same q l (same_path q x) refl)) where
    by_same : (q : Path) → is_listed q (filter f xs) ≡ true → (t : Bool) → same_path q x ≡ t → t ≡ false
    by_same q l true same = not-both (f x) (ap f (sym (same-is q x same)) ∙ listed-kept q xs l) is
    by_same q l false same = refl

  -- the first of each that are kept are the first of each kept
  pub ones-kept : (seen xs : List Path) → filter f (new_ones seen xs) ≡ new_ones seen (filter f xs)
  ones-kept seen [] = refl
  ones-kept seen (x ∷ xs) = by_tests (is_listed x seen) refl (f x) refl (ones-kept seen xs) (ones-kept (x ∷ seen) xs) where
    by_tests : (b : Bool) → is_listed x seen ≡ b → (t : Bool) → f x ≡ t → filter f (new_ones seen xs) ≡ new_ones seen (filter f xs)
        → filter f (new_ones (x ∷ seen) xs) ≡ new_ones (x ∷ seen) (filter f xs)
        → filter f (if b then new_ones seen xs else x ∷ new_ones (x ∷ seen) xs) ≡ new_ones seen (cond t (x ∷ filter f xs) (filter f xs))
    by_tests true was true is a c = a ∙ sym (ap (λ b. if b then new_ones seen (filter f xs) else x ∷ new_ones (x ∷ seen) (filter f xs)) was)
    by_tests true was false is a c = a
    by_tests false was true is a c =
        ap (λ t. cond t (x ∷ filter f (new_ones (x ∷ seen) xs)) (filter f (new_ones (x ∷ seen) xs))) is ∙ ap (λ ys. x ∷ ys) c
        ∙ sym (ap (λ b. if b then new_ones seen (filter f xs) else x ∷ new_ones (x ∷ seen) (filter f xs)) was)
    by_tests false was false is a c =
        ap (λ t. cond t (x ∷ filter f (new_ones (x ∷ seen) xs)) (filter f (new_ones (x ∷ seen) xs))) is ∙ c ∙ unseen x seen xs is

-- ---- runs of one path
abbrev pub has_any : List Path → Bool
has_any [] = false
has_any (x ∷ xs) = true

run-seen : (x : Path) (seen run rest : List Path) → Each (λ y. y ≡ x) run → is_listed x seen ≡ true → new_ones seen (run ++ rest) ≡ new_ones seen rest
run-seen x seen [] rest all was = refl
run-seen x seen (y ∷ ys) rest all was =
    ap (λ b. if b then new_ones seen (ys ++ rest) else y ∷ new_ones (y ∷ seen) (ys ++ rest)) (ap (λ z. is_listed z seen) all.0 ∙ was) ∙ run-seen x seen ys rest all.1 was

one-run : (x : Path) (seen run rest : List Path) → Each (λ y. y ≡ x) run → is_listed x seen ≡ false → new_ones seen (run ++ rest) ≡ (if has_any run then x ∷ new_ones (x ∷ seen) rest else new_ones seen rest)
one-run x seen [] rest all new = refl
one-run x seen (y ∷ ys) rest all new =
    ap (λ b. if b then new_ones seen (ys ++ rest) else y ∷ new_ones (y ∷ seen) (ys ++ rest)) (ap (λ z. is_listed z seen) all.0 ∙ new)
    ∙ ap (λ z. z ∷ new_ones (z ∷ seen) (ys ++ rest)) all.0
    ∙ ap (λ zs. x ∷ zs) (run-seen x (x ∷ seen) ys rest all.1 (listed-first x seen))

module _ (n : List ℕ) (run : Path → List Path) (runs : (c : Path) → Each (λ y. y ≡ n ∷ c) (run c)) where
  other-child : (c d : Path) → same_path c d ≡ false → same_path (n ∷ c) (n ∷ d) ≡ false
  other-child c d other = by_name (bytes_eq n n) where
    by_name : (t : Bool) → (t && same_path c d) ≡ false
    by_name true = other
    by_name false = refl

  -- of each run that isn't empty its path
  pub ones-of-runs : (seen cs : List Path) → are_apart cs ≡ true → ((c : Path) → is_listed c cs ≡ true → is_listed (n ∷ c) seen ≡ false)
      → new_ones seen (flat_map run cs) ≡ map (λ c. n ∷ c) (filter (λ c. has_any (run c)) cs)
  ones-of-runs seen [] apart new = refl
  ones-of-runs seen (c ∷ cs) apart new =
      one-run (n ∷ c) seen (run c) (flat_map run cs) (runs c) (new c (listed-first c cs))
      ∙ by_any (has_any (run c)) (ones-of-runs seen cs parts.1 (λ d l. new d (listed-next d c cs l))) (ones-of-runs ((n ∷ c) ∷ seen) cs parts.1 (λ d l. or_from (same_path (n ∷ d) (n ∷ c)) (is_listed (n ∷ d) seen) (other-child d c (not-same d l (same_path d c) refl)) (new d (listed-next d c cs l)))) where
        parts : (not (is_listed c cs) ≡ true) × (are_apart cs ≡ true)
        parts = and_parts (not (is_listed c cs)) (are_apart cs) apart

        not-same : (d : Path) → is_listed d cs ≡ true → (t : Bool) → same_path d c ≡ t → t ≡ false
        not-same d l true same = not-both (is_listed c cs) (ap (λ z. is_listed z cs) (sym (same-is d c same)) ∙ l) (not-true (is_listed c cs) parts.0)
        not-same d l false same = refl

        by_any : (t : Bool) → new_ones seen (flat_map run cs) ≡ map (λ d. n ∷ d) (filter (λ d. has_any (run d)) cs) → new_ones ((n ∷ c) ∷ seen) (flat_map run cs) ≡ map (λ d. n ∷ d) (filter (λ d. has_any (run d)) cs)
            → (if t then (n ∷ c) ∷ new_ones ((n ∷ c) ∷ seen) (flat_map run cs) else new_ones seen (flat_map run cs)) ≡ map (λ d. n ∷ d) (cond t (c ∷ filter (λ d. has_any (run d)) cs) (filter (λ d. has_any (run d)) cs))
        by_any true a b = ap (λ ys. (n ∷ c) ∷ ys) b
        by_any false a b = a
