-- The numbers that nodes get are the first ones that aren't given, in their order.
use Rattle.std.proofs.Common.{◌≡◌, ℕ, zero, suc, ◌+◌, ◌-◌, ◌<◌, ◌≤◌, ◌==◌, ◌||◌, ◌&&◌, Bool, true, false, not, List, [], ◌∷◌, length, map, if◌then◌else◌, refl, sym, ap, ◌∙◌, subst, inl, inr, add-one, zero-add, arith}
use Rattle.std.specs.Prelude.{nat_lt, slice_index, ◌⊎◌}
use Rattle.std.proofs.lemmas.Bool.{cases_order, eqb-true, lt-ltb, ltb-true, ltb-false}
use Rattle.dt_source.specs.TreeMeaning.Paths.{Path}
use Rattle.dt_source.specs.TreeMeaning.Phandles.{PathPhandle, has_phandle, next_free, assigned}
use Rattle.dt_build.specs.Resolve.Laws.{GivesEachNode, GivesKthFree, IsKthFree, IsOneNumber, free_below, is_free, numbers}

-- ---- how many given numbers are above one: each try that finds a given number leaves fewer
abbrev one_above : Bool → ℕ
one_above b = if b then 1 else 0

abbrev above : ℕ → List PathPhandle → ℕ
above n [] = 0
above n (x ∷ xs) = one_above (nat_lt n x.phandle) + above n xs

few-by : (b : Bool) (k n : ℕ) → k ≤ n → one_above b + k ≤ suc n
few-by true k n le = omega (arith, le)
few-by false k n le = omega (arith, le)

above-few : (n : ℕ) (xs : List PathPhandle) → above n xs ≤ length xs
above-few n [] = omega arith
above-few n (x ∷ xs) = few-by (nat_lt n x.phandle) (above n xs) (length xs) (above-few n xs)

-- a number that is above one is above the one below it
module _ (n h : ℕ) where
  less-by : (k m : ℕ) → k ≤ m → (s t : Bool) → nat_lt (suc n) h ≡ s → nat_lt n h ≡ t → one_above s + k ≤ one_above t + m
  less-by k m le true true d e = omega (arith, le)
  less-by k m le true false d e = absurd (omega (arith, ltb-true (suc n) h d, ltb-false n h e))
  less-by k m le false true d e = omega (arith, le)
  less-by k m le false false d e = omega (arith, le)

  strict-by : (k m : ℕ) → k < m → (s t : Bool) → nat_lt (suc n) h ≡ s → nat_lt n h ≡ t → one_above s + k < one_above t + m
  strict-by k m less true true d e = omega (arith, less)
  strict-by k m less true false d e = absurd (omega (arith, ltb-true (suc n) h d, ltb-false n h e))
  strict-by k m less false true d e = omega (arith, less)
  strict-by k m less false false d e = omega (arith, less)

  equal-by : (k m : ℕ) → k ≤ m → h ≡ suc n → (s t : Bool) → nat_lt (suc n) h ≡ s → nat_lt n h ≡ t → one_above s + k < one_above t + m
  equal-by k m le is true t d e = absurd (omega (arith, is, ltb-true (suc n) h d))
  equal-by k m le is false true d e = omega (arith, le)
  equal-by k m le is false false d e = absurd (omega (arith, is, ltb-false n h e))

above-less : (n : ℕ) (xs : List PathPhandle) → above (suc n) xs ≤ above n xs
above-less n [] = omega arith
above-less n (x ∷ xs) = less-by n x.phandle (above (suc n) xs) (above n xs) (above-less n xs) (nat_lt (suc n) x.phandle) (nat_lt n x.phandle) refl refl

given-by : (n : ℕ) (x : PathPhandle) (xs : List PathPhandle) → (has_phandle (suc n) xs ≡ true → above (suc n) xs < above n xs) → (b : Bool) → (x.phandle == suc n) ≡ b
    → (b || has_phandle (suc n) xs) ≡ true → above (suc n) (x ∷ xs) < above n (x ∷ xs)
given-by n x xs further true e g =
    equal-by n x.phandle (above (suc n) xs) (above n xs) (above-less n xs) (eqb-true x.phandle (suc n) e) (nat_lt (suc n) x.phandle) (nat_lt n x.phandle) refl refl
given-by n x xs further false e g = strict-by n x.phandle (above (suc n) xs) (above n xs) (further g) (nat_lt (suc n) x.phandle) (nat_lt n x.phandle) refl refl

above-given : (n : ℕ) (xs : List PathPhandle) → has_phandle (suc n) xs ≡ true → above (suc n) xs < above n xs
above-given n [] h = absurd (cc)
above-given n (x ∷ xs) h = given-by n x xs (above-given n xs) (x.phandle == suc n) refl h

-- ---- the next free number
pub record IsNext (given : List PathPhandle) (n m : ℕ) : Type 0 where
  pub free : is_free given m ≡ true
  pub before : free_below given m ≡ free_below given (suc n)

free-here : (given : List PathPhandle) (n : ℕ) (b : Bool) → has_phandle (suc n) given ≡ b → is_free given (suc n) ≡ not b
free-here given n b e = ap (λ t. nat_lt 0 (suc n) && not t) e ∙ ap (λ t. t && not b) (lt-ltb 0 (suc n) (omega arith))

count-by : (given : List PathPhandle) (n : ℕ) (b : Bool) → is_free given n ≡ b → free_below given (suc n) ≡ free_below given n + (if b then 1 else 0)
count-by given n b e = ap (λ t. free_below given n + (if t then 1 else 0)) e

module _ (given : List PathPhandle) (tries n : ℕ) (further : above (suc n) given ≤ tries → IsNext given (suc n) (next_free tries given (suc n))) (few : above n given ≤ suc tries) where
  next-going : (b : Bool) → has_phandle (suc n) given ≡ b → IsNext given n (if b then next_free tries given (suc n) else suc n)
  next-going true e =
      let next = further (omega (arith, few, above-given n given e)) in
      let none : free_below given (suc n) + 0 ≡ free_below given (suc n) = omega arith in
      record { free = next.free; before = next.before ∙ count-by given (suc n) false (free-here given n true e) ∙ none }
  next-going false e = record { free = free-here given n false e; before = refl }

  next-try : (b : Bool) → has_phandle (suc n) given ≡ b → IsNext given n (if has_phandle (suc n) given then next_free tries given (suc n) else suc n)
  next-try b e = subst (λ t. IsNext given n (if t then next_free tries given (suc n) else suc n)) (sym e) (next-going b e)

next-is : (given : List PathPhandle) (tries n : ℕ) → above n given ≤ tries → IsNext given n (next_free tries given n)
next-is given zero n few = subst (IsNext given n) (sym (add-one n)) (last (has_phandle (suc n) given) refl)
  where
    last : (b : Bool) → has_phandle (suc n) given ≡ b → IsNext given n (suc n)
    last true e = absurd (omega (arith, few, above-given n given e))
    last false e = record { free = free-here given n false e; before = refl }
next-is given (suc tries) n few =
    subst (λ k. IsNext given n (if has_phandle k given then next_free tries given k else k)) (sym (add-one n)) (next-try given tries n (next-is given tries (suc n)) few (has_phandle (suc n) given) refl)

-- ---- all that are wanted
each-from : (given : List PathPhandle) (n : ℕ) (ps : List Path) → map (λ x. x.path) (assigned given n ps) ≡ ps
each-from given n [] = refl
each-from given n (p ∷ ps) = ap (λ l. p ∷ l) (each-from given (next_free (length given) given n) ps)

pub each-node : GivesEachNode
each-node given wanted = each-from given 0 wanted

kth-from : (given : List PathPhandle) (n : ℕ) (ps : List Path) (k : ℕ) → k < length ps → IsKthFree given (free_below given (suc n) + k) (slice_index (numbers (assigned given n ps)) k)
kth-from given n [] k within = absurd (omega (arith, within))
kth-from given n (p ∷ ps) zero within =
    let next = next-is given (length given) n (above-few n given) in
    let none : free_below given (suc n) ≡ free_below given (suc n) + 0 = omega arith in
    record { free = next.free; before = next.before ∙ none }
kth-from given n (p ∷ ps) (suc k) within =
    let m = next_free (length given) given n in
    let next = next-is given (length given) n (above-few n given) in
    let rest = kth-from given m ps k (omega (arith, within)) in
    record { free = rest.free; before = omega (arith, rest.before, count-by given m true next.free, next.before) }

pub kth-free : GivesKthFree
kth-free given wanted k within =
    let kth = kth-from given 0 wanted k within in
    record { free = kth.free; before = kth.before ∙ zero-add k }

-- ---- one number
one-more : (given : List PathPhandle) (n : ℕ) (b : Bool) → is_free given n ≡ b → free_below given n ≤ free_below given (suc n)
one-more given n true e = omega (arith, count-by given n true e)
one-more given n false e = omega (arith, count-by given n false e)

below-more : (given : List PathPhandle) (m d : ℕ) → free_below given m ≤ free_below given (m + d)
below-more given m zero =
    let is : m ≡ m + 0 = omega arith in
    subst (λ j. free_below given m ≤ free_below given j) is (omega arith)
below-more given m (suc d) =
    let is : suc (m + d) ≡ m + suc d = omega arith in
    subst (λ j. free_below given m ≤ free_below given j) is (omega (arith, below-more given m d, one-more given (m + d) (is_free given (m + d)) refl))

not-less : (given : List PathPhandle) (k m n : ℕ) → IsKthFree given k m → IsKthFree given k n → m < n → ⊥
not-less given k m n a b less =
    let is : suc m + (n - suc m) ≡ n = omega (arith, less) in
    let more = subst (λ j. free_below given (suc m) ≤ free_below given j) is (below-more given (suc m) (n - suc m)) in
    omega (arith, more, count-by given m true a.free, a.before, b.before)

pub one-number : IsOneNumber
one-number given k m n a b = by (cases_order m n)
  where
    by : (m ≡ n) ⊎ ((m < n) ⊎ (n < m)) → m ≡ n
    by (inl e) = e
    by (inr (inl less)) = absurd (not-less given k m n a b less)
    by (inr (inr less)) = absurd (not-less given k n m b a less)
