-- Parts of lists that a test takes.
use Rattle.std.proofs.Common.{◌≡◌, inl, inr, ℕ, zero, suc, ◌+◌, ◌≤◌, ◌<◌, Bool, true, false, List, [], ◌∷◌, length, get_or, map, take, drop, cond, refl, sym, ap, ◌∙◌, arith}
use Rattle.std.specs.List.{filter}
use Rattle.std.proofs.lemmas.Bool.{cases_lt}
use Rattle.dt_live.specs.Flattened.{nodes_from}

pub from-length : (k n : ℕ) → length (nodes_from k n) ≡ n
from-length k zero = refl
from-length k (suc n) = ap suc (from-length (k + 1) n)

pub from-at : {A : Type 0} (p : ℕ → A) (k n i : ℕ) (d : A) → i < n → get_or (map p (nodes_from k n)) i d ≡ p (k + i)
from-at p k zero i d lt = absurd (omega arith)
from-at p k (suc n) zero d lt = ap p (omega arith)
from-at p k (suc n) (suc i) d lt = from-at p (k + 1) n i d (omega arith) ∙ ap p (omega arith)

module _ {A : Type 0} (p : ℕ → A) (t : A → Bool) where
  skip : (k : ℕ) (xs ys : List A) → t (p k) ≡ false → filter t xs ≡ ys → filter t (p k ∷ xs) ≡ ys
  skip k xs ys e f = ap (λ b. cond b (p k ∷ filter t xs) (filter t xs)) e ∙ f

  keep : (k : ℕ) (xs ys : List A) → t (p k) ≡ true → filter t xs ≡ ys → filter t (p k ∷ xs) ≡ p k ∷ ys
  keep k xs ys e f = ap (λ b. cond b (p k ∷ filter t xs) (filter t xs)) e ∙ ap (λ zs. p k ∷ zs) f

  -- what the test takes of so many numbers is what stands from low on
  abbrev Taken : ℕ → ℕ → Type 0
  Taken n k =
      (low len : ℕ) → k ≤ low → low + len ≤ k + n → ((i : ℕ) → low ≤ i → i < low + len → t (p i) ≡ true) → ((i : ℕ) → k ≤ i → i < low → t (p i) ≡ false)
      → ((i : ℕ) → low + len ≤ i → i < k + n → t (p i) ≡ false) → filter t (map p (nodes_from k n)) ≡ map p (nodes_from low len)

  at-low : (n k : ℕ) → Taken n (k + 1) → (low len : ℕ) → low ≡ k → low + len ≤ k + suc n → ((i : ℕ) → low ≤ i → i < low + len → t (p i) ≡ true)
      → ((i : ℕ) → low + len ≤ i → i < k + suc n → t (p i) ≡ false) → filter t (map p (nodes_from k (suc n))) ≡ map p (nodes_from low len)
  at-low n k later low zero same to inside behind =
      skip k (map p (nodes_from (k + 1) n)) [] (behind k (omega arith) (omega arith))
      (later (k + 1) zero (omega arith) (omega arith) (λ i le lt. absurd (omega arith)) (λ i le lt. absurd (omega arith)) (λ i le lt. behind i (omega arith) (omega arith)))
  at-low n k later low (suc len) same to inside behind =
      keep k (map p (nodes_from (k + 1) n)) (map p (nodes_from (k + 1) len)) (inside k (omega arith) (omega arith))
      (later (k + 1) len (omega arith) (omega arith) (λ i le lt. inside i (omega arith) (omega arith)) (λ i le lt. absurd (omega arith)) (λ i le lt. behind i (omega arith) (omega arith)))
      ∙ ap (λ m. map p (nodes_from m (suc len))) (sym same)

  pub numbers-taken : (n k : ℕ) → Taken n k
  numbers-taken zero k low zero from to inside before behind = refl
  numbers-taken zero k low (suc len) from to inside before behind = absurd (omega arith)
  numbers-taken (suc n) k low len from to inside before behind = elim (cases_lt k low) [
    | inl lower ↦
        skip k (map p (nodes_from (k + 1) n)) (map p (nodes_from low len)) (before k (omega arith) lower)
        (numbers-taken n (k + 1) low len (omega arith) (omega arith) inside (λ i le lt. before i (omega arith) lt) (λ i le lt. behind i le (omega arith)))
    | inr reached ↦ at-low n k (numbers-taken n (k + 1)) low len (omega arith) to inside behind
  ]

module _ {A B : Type 0} (f : A → B) (t : B → Bool) (none : A) where
  abbrev at : List A → ℕ → A
  at xs i = get_or xs i none

  abbrev empty : List A
  empty = []

  take-none : (n : ℕ) → take n empty ≡ []
  take-none zero = refl
  take-none (suc n) = refl

  drop-none : (n : ℕ) → drop n empty ≡ []
  drop-none zero = refl
  drop-none (suc n) = refl

  -- items that stand together
  pub items-taken : (xs : List A) (low len : ℕ) → low + len ≤ length xs → ((i : ℕ) → low ≤ i → i < low + len → t (f (at xs i)) ≡ true) → ((i : ℕ) → i < low → t (f (at xs i)) ≡ false)
      → ((i : ℕ) → low + len ≤ i → i < length xs → t (f (at xs i)) ≡ false) → filter t (map f xs) ≡ map f (take len (drop low xs))
  items-taken [] low len known inside before behind = sym (ap (λ ys. map f (take len ys)) (drop-none low) ∙ ap (map f) (take-none len))
  items-taken (x ∷ xs) zero zero known inside before behind =
      ap (λ b. cond b (f x ∷ filter t (map f xs)) (filter t (map f xs))) (behind 0 (omega arith) (omega arith))
      ∙ items-taken xs zero zero (omega arith) (λ i le lt. absurd (omega arith)) (λ i lt. absurd (omega arith)) (λ i le lt. behind (suc i) (omega arith) (omega arith))
  items-taken (x ∷ xs) zero (suc len) known inside before behind =
      ap (λ b. cond b (f x ∷ filter t (map f xs)) (filter t (map f xs))) (inside 0 (omega arith) (omega arith))
      ∙ ap (λ ys. f x ∷ ys) (items-taken xs zero len (omega arith) (λ i le lt. inside (suc i) (omega arith) (omega arith)) (λ i lt. absurd (omega arith)) (λ i le lt. behind (suc i) (omega arith) (omega arith)))
  items-taken (x ∷ xs) (suc low) len known inside before behind =
      ap (λ b. cond b (f x ∷ filter t (map f xs)) (filter t (map f xs))) (before 0 (omega arith))
      ∙ items-taken xs low len (omega arith) (λ i le lt. inside (suc i) (omega arith) (omega arith)) (λ i lt. before (suc i) (omega arith)) (λ i le lt. behind (suc i) (omega arith) (omega arith))

-- ---- where numbers reach a bound
module _ {A : Type 0} (number : A → ℕ) (none : A) where
  abbrev number_at : List A → ℕ → ℕ
  number_at xs i = number (get_or xs i none)

  pub record Reaches (xs : List A) (bound place : ℕ) : Type 0 where
    pub known : place ≤ length xs
    pub before : (i : ℕ) → i < place → number_at xs i < bound
    pub behind : (i : ℕ) → place ≤ i → i < length xs → bound ≤ number_at xs i

  before_more : (bound : ℕ) (x : A) (xs : List A) (place : ℕ) → number x < bound → Reaches xs bound place → (i : ℕ) → i < suc place → number_at (x ∷ xs) i < bound
  before_more bound x xs place lower r zero lt = lower
  before_more bound x xs place lower r (suc i) lt = r.before i (omega arith)

  behind_more : (bound : ℕ) (x : A) (xs : List A) (place : ℕ) → Reaches xs bound place → (i : ℕ) → suc place ≤ i → i < length (x ∷ xs) → bound ≤ number_at (x ∷ xs) i
  behind_more bound x xs place r zero le lt = absurd (omega arith)
  behind_more bound x xs place r (suc i) le lt = r.behind i (omega arith) (omega arith)

  pub place-of : (bound : ℕ) (xs : List A) → ((i j : ℕ) → i ≤ j → j < length xs → number_at xs i ≤ number_at xs j) → (place : ℕ) × Reaches xs bound place
  place-of bound [] order = (0, record { known = omega arith; before = λ i lt. absurd (omega arith); behind = λ i le lt. absurd (omega arith) })
  place-of bound (x ∷ xs) order = elim (cases_lt (number x) bound) [
    | inl lower ↦
        let r = place-of bound xs (λ i j le lt. order (suc i) (suc j) (omega arith) (omega arith)) in
        (suc r.0, record { known = omega (arith, r.1.known); before = before_more bound x xs r.0 lower r.1; behind = behind_more bound x xs r.0 r.1 })
    | inr reached ↦ (
      0,
      record {
        known = omega arith;
        before = λ i lt. absurd (omega arith);
        behind = λ i le lt. let first = order 0 i (omega arith) lt in omega arith;
      },
    )
  ]
