-- The table of checks in parts.
use Rattle.std.proofs.Common.{◌≡◌, ◌∙◌, ℕ, zero, suc, ◌+◌, ◌*◌, ◌/◌, ◌%◌, ◌<◌, ◌≤◌, List, [], ◌∷◌, ◌++◌, length, take, drop, map, Option, Some, None, sym, ap, refl, arith}
use Rattle.std.specs.Borrow.{Bor}
use Rattle.std.specs.Option.{option_copied, option_map}
use Rattle.std.specs.List.{slice_get}
use Rattle.std.specs.Slice.{IsItemAt}
use Rattle.std.proofs.lemmas.List.{take_all, drop_all, take-map, length-map, map-append}
use Rattle.std.proofs.lemmas.Option.{slice_get-map, slice_get_past, slice_get_read}
use Rattle.dtman_check.specs.declared.table.check.Check.{Check}
use Rattle.dtman_check.specs.Table.Checks.{CheckData, checks, named_checks}
use Rattle.dtman_check.specs.Table.CheckView.{check_data}

pub checks_are_ninety : length checks ≡ 90
unfolding checks named_checks
checks_are_ninety = refl

-- ---- rows that are the table
pub rows_are_ninety : (rows : List Check) → map check_data rows ≡ checks → length rows ≡ 90
rows_are_ninety rows are = sym (length-map rows check_data) ∙ ap length are ∙ checks_are_ninety

pub rows_before : (n : ℕ) (rows : List Check) → map check_data rows ≡ checks → map check_data (take n rows) ≡ take n checks
rows_before n rows are = sym (take-map check_data n rows) ∙ ap (take n) are

-- ---- parts of a list
module _ {X : Type 0} where
  -- the element that is lent
  pub got-copied : (xs : List X) (i : ℕ) (r : Option (Bor X)) → IsItemAt xs i r → option_copied r ≡ slice_get xs i
  got-copied xs i None it = sym (slice_get_past xs i it.3)
  got-copied xs i (Some x) it = sym (slice_get_read xs (length xs) i x.now refl it.3.0 it.1)

  pub got-drop : (n : ℕ) (xs : List X) (i : ℕ) → slice_get (drop n xs) i ≡ slice_get xs (n + i)
  got-drop zero xs i = ap (slice_get xs) (omega arith)
  got-drop (suc n) [] i = refl
  got-drop (suc n) (x ∷ xs) i =
      let e : suc n + i ≡ suc (n + i) = omega arith in
      got-drop n xs i ∙ sym (ap (slice_get (x ∷ xs)) e)

  pub got-take : (n : ℕ) (xs : List X) (i : ℕ) → i < n → slice_get (take n xs) i ≡ slice_get xs i
  got-take zero xs i below = absurd (omega arith)
  got-take (suc n) [] i below = refl
  got-take (suc n) (x ∷ xs) zero below = refl
  got-take (suc n) (x ∷ xs) (suc i) below = got-take n xs i (omega arith)

  take-none : (n : ℕ) → take n (let none : List X = [] in none) ≡ []
  take-none zero = refl
  take-none (suc n) = refl

  pub take-more : (m n : ℕ) (xs : List X) → take (m + n) xs ≡ take m xs ++ take n (drop m xs)
  take-more zero n xs = ap (λ k. take k xs) (omega arith)
  take-more (suc m) n [] = ap (λ k. take k []) (omega arith) ∙ take-none (suc m + n) ∙ sym (take-none n)
  take-more (suc m) n (x ∷ xs) =
      let e : suc m + n ≡ suc (m + n) = omega arith in
      ap (λ k. take k (x ∷ xs)) e ∙ ap (λ ys. x ∷ ys) (take-more m n xs)

-- ---- parts of the table
pub no_part : (number : ℕ) → 9 ≤ number → [] ≡ take 11 (drop (11 * number) checks)
no_part number past =
    let lengths : length checks ≡ 90 = checks_are_ninety in
    let none : drop (11 * number) checks ≡ [] = drop_all (11 * number) checks (omega arith) in
    sym (ap (take 11) none)

pub with_part : (rows more : List Check) (number : ℕ) → map check_data rows ≡ take (11 * number) checks
    → map check_data more ≡ take 11 (drop (11 * number) checks) → map check_data (rows ++ more) ≡ take (11 * (number + 1)) checks
with_part rows more number are next =
    let e : 11 * number + 11 ≡ 11 * (number + 1) = omega arith in
    map-append check_data rows more
    ∙ ap (λ front. front ++ map check_data more) are
    ∙ ap (λ back. take (11 * number) checks ++ back) next
    ∙ sym (take-more (11 * number) 11 checks)
    ∙ ap (λ n. take n checks) e

pub all_parts : (rows : List Check) → map check_data rows ≡ take 99 checks → map check_data rows ≡ checks
all_parts rows are =
    let lengths : length checks ≡ 90 = checks_are_ninety in
    are ∙ take_all 99 checks (omega arith)

pub in_part : (rows : List Check) (place : ℕ) → map check_data rows ≡ take 11 (drop (11 * (place / 11)) checks)
    → option_map check_data (slice_get rows (place % 11)) ≡ slice_get checks place
in_part rows place are =
    let below : place % 11 < 11 = omega arith in
    let e : 11 * (place / 11) + place % 11 ≡ place = omega arith in
    sym (slice_get-map check_data rows (place % 11))
    ∙ ap (λ part. slice_get part (place % 11)) are
    ∙ got-take 11 (drop (11 * (place / 11)) checks) (place % 11) below
    ∙ got-drop (11 * (place / 11)) checks (place % 11)
    ∙ ap (slice_get checks) e
