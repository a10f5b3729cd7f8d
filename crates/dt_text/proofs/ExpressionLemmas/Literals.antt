-- Digits of a literal, one after the other.
use Rattle.std.proofs.Common.{◌≡◌, ℕ, ◌+◌, ◌*◌, ◌^◌, ◌<◌, ◌≤◌, Bool, true, false, cond, ltb, List, [], ◌∷◌, length, drop, get_or, Option, Some, None, refl, sym, ap, ◌∙◌, arith, add-one}
use Rattle.std.specs.Prelude.{fold}
use Rattle.std.proofs.lemmas.Bool.{le-ltb, lt-ltb, ltb-true}
use Rattle.std.proofs.Math.Nat.{le-mul_of_pos_right}
use Rattle.std.proofs.Math.Seq.{drop-cons}
use Rattle.dt_text.specs.Expression.Values.{digit_of, is_suffix, digit_step, number_step, below_64}

abbrev pub some : ℕ → Option ℕ
some n = Some n

-- what the digits from the i-th on make of the number before them
abbrev pub from_digit : ℕ → List ℕ → ℕ → Option ℕ → Option ℕ
from_digit base xs i o = below_64 (fold (number_step base) o (drop i xs))

pub one_digit : (base i : ℕ) (xs : List ℕ) (o : Option ℕ) → i < length xs → from_digit base xs i o ≡ from_digit base xs (i + 1) (number_step base o (get_or xs i 0))
one_digit base i xs o lt = rw (add-one, drop-cons xs i 0) refl

pub good_digit : (base n c : ℕ) → is_suffix c ≡ false → digit_of c < base → number_step base (Some n) c ≡ some (n * base + digit_of c)
good_digit base n c h lt = let e : ltb (digit_of c) base ≡ true = lt-ltb _ _ lt in rw (h, e) refl

pub bad_digit : (base n c : ℕ) → is_suffix c ≡ false → base ≤ digit_of c → number_step base (Some n) c ≡ None
bad_digit base n c h le = let e : ltb (digit_of c) base ≡ false = le-ltb _ _ le in rw (h, e) refl

-- What is no number stays none.
pub none_left : (base : ℕ) (xs : List ℕ) → fold (number_step base) None xs ≡ None
none_left base [] = refl
none_left base (x ∷ xs) = none_left base xs

-- A number that is too large only grows.
pub large_left : (base n : ℕ) (xs : List ℕ) → 2 ^ 64 ≤ n → below_64 (fold (number_step base) (Some n) xs) ≡ None
large_left base n [] le = let e : ltb n (2 ^ 64) ≡ false = le-ltb _ _ le in rw e refl
large_left base n (x ∷ xs) le = go (large_left base n xs le) (λ m h. large_left base m xs h) (is_suffix x) refl
  where
    grows : (d : ℕ) → d < base → 2 ^ 64 ≤ n * base + d
    grows d h = let pos : 0 < base = omega arith in let wide : n ≤ n * base = le-mul_of_pos_right n pos in omega arith

    digit : ((m : ℕ) → 2 ^ 64 ≤ m → below_64 (fold (number_step base) (Some m) xs) ≡ None) → (d : ℕ) (b : Bool) → ltb d base ≡ b
        → below_64 (fold (number_step base) (cond b (Some (n * base + d)) None) xs) ≡ None
    digit next d true h = next (n * base + d) (grows d (ltb-true _ _ h))
    digit next d false h = ap below_64 (none_left base xs)

    go : below_64 (fold (number_step base) (Some n) xs) ≡ None → ((m : ℕ) → 2 ^ 64 ≤ m → below_64 (fold (number_step base) (Some m) xs) ≡ None)
        → (b : Bool) → is_suffix x ≡ b → below_64 (fold (number_step base) (cond b (Some n) (digit_step base n (digit_of x))) xs) ≡ None
    go same next true h = same
    go same next false h = digit next (digit_of x) (ltb (digit_of x) base) refl

pub ends_bad : (base i n : ℕ) (xs : List ℕ) (total : Option ℕ) → i < length xs → is_suffix (get_or xs i 0) ≡ false → base ≤ digit_of (get_or xs i 0)
    → from_digit base xs i (Some n) ≡ total → None ≡ total
ends_bad base i n xs total lt s le e =
    sym (ap below_64 (none_left base (drop (i + 1) xs))) ∙ sym (ap (from_digit base xs (i + 1)) (bad_digit base n (get_or xs i 0) s le)) ∙ sym (one_digit base i xs (Some n) lt) ∙ e

pub ends_large : (base i n : ℕ) (xs : List ℕ) (total : Option ℕ) → i < length xs → is_suffix (get_or xs i 0) ≡ false → digit_of (get_or xs i 0) < base
    → 2 ^ 64 ≤ n * base + digit_of (get_or xs i 0) → from_digit base xs i (Some n) ≡ total → None ≡ total
ends_large base i n xs total lt s h large e =
    sym (large_left base (n * base + digit_of (get_or xs i 0)) (drop (i + 1) xs) large) ∙ sym (ap (from_digit base xs (i + 1)) (good_digit base n (get_or xs i 0) s h)) ∙ sym (one_digit base i xs (Some n) lt) ∙ e

pub goes_on : (base i n m : ℕ) (xs : List ℕ) (total : Option ℕ) → i < length xs → is_suffix (get_or xs i 0) ≡ false → digit_of (get_or xs i 0) < base
    → m ≡ n * base + digit_of (get_or xs i 0) → from_digit base xs i (Some n) ≡ total → from_digit base xs (i + 1) (Some m) ≡ total
goes_on base i n m xs total lt s below same e =
    ap (λ x. from_digit base xs (i + 1) (Some x)) same ∙ sym (ap (from_digit base xs (i + 1)) (good_digit base n (get_or xs i 0) s below)) ∙ sym (one_digit base i xs (Some n) lt) ∙ e

suffix : (base n c : ℕ) → is_suffix c ≡ true → number_step base (Some n) c ≡ some n
suffix base n c h = rw h refl

pub skips : (base i n m : ℕ) (xs : List ℕ) (total : Option ℕ) → i < length xs → is_suffix (get_or xs i 0) ≡ true → m ≡ n → from_digit base xs i (Some n) ≡ total
    → from_digit base xs (i + 1) (Some m) ≡ total
skips base i n m xs total lt s same e =
    ap (λ x. from_digit base xs (i + 1) (Some x)) same ∙ sym (ap (from_digit base xs (i + 1)) (suffix base n (get_or xs i 0) s)) ∙ sym (one_digit base i xs (Some n) lt) ∙ e
