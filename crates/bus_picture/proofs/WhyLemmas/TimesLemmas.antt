-- How often a device stands in a list.
use Rattle.std.proofs.Common.{◌≡◌, ◌≢◌, inl, inr, ℕ, zero, suc, ◌+◌, ◌<◌, Bool, List, [], ◌∷◌, ◌++◌, length, get_or, cond, refl, sym, ap, ◌∙◌, subst, arith}
use Rattle.std.specs.Prelude.{◌==◌}
use Rattle.std.proofs.lemmas.Bool.{cases_eq, eq-eqb, ne_eqb}
use Rattle.std.proofs.lemmas.List.Sums.{sum_by-append}
use Rattle.bus_picture.specs.Why.Order.{times}

-- a test as a number
abbrev pub bit : Bool → ℕ
bit b = cond b 1 0

pub here : (x d : ℕ) → x ≡ d → bit (x == d) ≡ 1
here x d same = ap (λ b. bit b) (eq-eqb x d same)

pub apart : (x d : ℕ) → x ≢ d → bit (x == d) ≡ 0
apart x d other = ap (λ b. bit b) (ne_eqb x d other)

pub times_push : (d : ℕ) (xs : List ℕ) (x : ℕ) → times d (xs ++ x ∷ []) ≡ times d xs + bit (x == d)
times_push d xs x =
    let last : 0 + bit (x == d) ≡ bit (x == d) = omega arith
    in sum_by-append (λ e. bit (e == d)) xs (x ∷ []) ∙ ap (λ n. times d xs + n) last

pub times_one : (d x : ℕ) → times d (x ∷ []) ≡ bit (x == d)
times_one d x = let last : 0 + bit (x == d) ≡ bit (x == d) = omega arith in last

pub times_cons : (d x : ℕ) (xs : List ℕ) → times d (x ∷ xs) ≡ bit (x == d) + times d xs
times_cons d x xs = sum_by-append (λ e. bit (e == d)) (x ∷ []) xs ∙ ap (λ n. n + times d xs) (times_one d x)

pub times_push_here : (d : ℕ) (xs : List ℕ) (x : ℕ) → x ≡ d → times d (xs ++ x ∷ []) ≡ times d xs + 1
times_push_here d xs x same = times_push d xs x ∙ ap (λ n. times d xs + n) (here x d same)

pub times_push_apart : (d : ℕ) (xs : List ℕ) (x : ℕ) → x ≢ d → times d (xs ++ x ∷ []) ≡ times d xs
times_push_apart d xs x other =
    let none : times d xs + 0 ≡ times d xs = omega arith
    in times_push d xs x ∙ ap (λ n. times d xs + n) (apart x d other) ∙ none

pub times_none : (d : ℕ) (xs : List ℕ) → length xs ≡ 0 → times d xs ≡ 0
times_none d [] empty = refl
times_none d (x ∷ xs) empty = absurd (omega arith)

-- what stands in a list stands at a place, and the other way round
pub place_of_times : (d : ℕ) (xs : List ℕ) → 0 < times d xs → (i : ℕ) × (i < length xs) × (get_or xs i 0 ≡ d)
place_of_times d [] some = absurd (omega arith)
place_of_times d (x ∷ xs) some = elim (cases_eq x d) [
  | inl same ↦ (0, omega arith, same)
  | inr other ↦
      let sum : 0 < bit (x == d) + times d xs = subst (λ n. 0 < n) (times_cons d x xs) some
      in let none : bit (x == d) ≡ 0 = apart x d other
      in let rest : 0 < times d xs = omega arith
      in let found : (i : ℕ) × (i < length xs) × (get_or xs i 0 ≡ d) = place_of_times d xs rest
      in let below : found.0 < length xs = found.1
      in (suc found.0, omega arith, found.2)
]

pub times_of_place : (xs : List ℕ) (i : ℕ) → i < length xs → 0 < times (get_or xs i 0) xs
times_of_place [] i within = absurd (omega arith)
times_of_place (x ∷ xs) zero within =
    let one : bit (x == x) ≡ 1 = here x x refl
    in let sum : 0 < bit (x == x) + times x xs = omega arith
    in subst (λ n. 0 < n) (sym (times_cons x x xs)) sum
times_of_place (x ∷ xs) (suc i) within =
    let d : ℕ = get_or xs i 0
    in let rest : 0 < times d xs = times_of_place xs i (omega arith)
    in let sum : 0 < bit (x == d) + times d xs = omega arith
    in subst (λ n. 0 < n) (sym (times_cons d x xs)) sum
