-- Paths that differ, and their places.
use Rattle.std.proofs.Common.{◌≡◌, ◌≢◌, ◌∙◌, ap, sym, refl, ℕ, zero, suc, ◌<◌, Bool, true, false, cond, not, List, [], ◌∷◌, length, get_or, map, take, arith}
use Rattle.std.specs.List.{position_or_len}
use Rattle.std.specs.Prelude.{AllPairs, All, Some, None, nat_lt, position}
use Rattle.std.specs.Cmp.Lexicographic.{same_text, nat_list_eq_equiv}
use Rattle.std.specs.Str.{bytes_eq}
use Rattle.std.proofs.lemmas.Bool.{lt-ltb, ltb-true}
use Rattle.std.proofs.lemmas.List.{get_or-map, get_or-take, get_or_default, length-map, length-take-le}
use Rattle.std.proofs.lemmas.List.Folds.{list_any_at, Any-from_list_any}
use Rattle.std.proofs.lemmas.List.Sums.{passes_at_first, position_or_len_is}
use Rattle.bus_plan.specs.Plan.{PlannedDevice, paths, device_at}
use Rattle.bus_plan.specs.PlanPaths.{is_among, are_distinct, are_known, place_of}
use Rattle.bus_plan.proofs.BoolLemmas.{and-left, and-right, and_both, not-true}
use Rattle.bus_plan.proofs.PathLemmas.{found-is}

pub bytes_eq-same : (x y : List ℕ) → bytes_eq x y ≡ true → x ≡ y
bytes_eq-same x y e = same_text x y (sym e)

pub bytes_eq-refl : (x : List ℕ) → bytes_eq x x ≡ true
bytes_eq-refl x = nat_list_eq_equiv.refl x

-- no two places hold one path
pub distinct-pairs : (xs : List (List ℕ)) → are_distinct xs ≡ true → AllPairs (λ a b. a ≢ b) xs
distinct-pairs [] h i j d lt within = absurd (omega arith)
distinct-pairs (x ∷ xs) h i zero d lt within = absurd (omega arith)
distinct-pairs (x ∷ xs) h zero (suc j) d lt within = λ e.
    let there : is_among x xs ≡ true = list_any_at (bytes_eq x) xs j d (omega arith) (ap (bytes_eq x) (sym e) ∙ bytes_eq-refl x) in
    let absent : is_among x xs ≡ false = not-true _ (and-left _ _ h) in
    absurd (cc)
distinct-pairs (x ∷ xs) h (suc i) (suc j) d lt within = distinct-pairs xs (and-right _ _ h) i j d (omega arith) (omega arith)

-- and the other way round
pub absent : (x : List ℕ) (xs : List (List ℕ)) → ((j : ℕ) (d : List ℕ) → j < length xs → x ≢ get_or xs j d) → (t : Bool) → is_among x xs ≡ t → t ≡ false
absent x xs other true e =
    let found = Any-from_list_any (bytes_eq x) xs e in
    absurd (other found.0 found.1 found.2 (bytes_eq-same x found.1 found.4 ∙ sym found.3))
absent x xs other false e = refl

pub pairs-distinct : (xs : List (List ℕ)) → AllPairs (λ a b. a ≢ b) xs → are_distinct xs ≡ true
pairs-distinct [] pairs = refl
pairs-distinct (x ∷ xs) pairs =
    let gone : is_among x xs ≡ false = absent x xs (λ j d within. pairs 0 (suc j) d (omega arith) (omega arith)) (is_among x xs) refl in
    and_both _ _ (ap not gone) (pairs-distinct xs (λ i j d lt within. pairs (suc i) (suc j) d (omega arith) (omega arith)))

-- the place of a path that is there
pub place-within : (known : List (List ℕ)) (q : List ℕ) → is_among q known ≡ true → place_of known q < length known
place-within known q there = ltb-true (place_of known q) (length known) (found-is (bytes_eq q) known ∙ there)

pub place-holds : (known : List (List ℕ)) (q d : List ℕ) → is_among q known ≡ true → get_or known (place_of known q) d ≡ q
place-holds known q d there =
    sym (bytes_eq-same q (get_or known (place_of known q) d) (passes_at_first (bytes_eq q) known d (place-within known q there)))

-- places of known paths
pub known-here : (known qs : List (List ℕ)) (k : ℕ) (d : List ℕ) → are_known known qs ≡ true → k < length qs → is_among (get_or qs k d) known ≡ true
known-here known [] k d h within = absurd (omega arith)
known-here known (q ∷ qs) zero d h within = and-left _ _ h
known-here known (q ∷ qs) (suc k) d h within = known-here known qs k d (and-right _ _ h) (omega arith)

pub places-within : (known qs : List (List ℕ)) → are_known known qs ≡ true → All (λ s. s < length known) (map (place_of known) qs)
places-within known [] h k d within = absurd (omega arith)
places-within known (q ∷ qs) h zero d within = place-within known q (and-left _ _ h)
places-within known (q ∷ qs) h (suc k) d within = places-within known qs (and-right _ _ h) k d (omega arith)

-- where no two places hold one path, what stands before a place is other
pub before-absent : (xs : List (List ℕ)) (i : ℕ) (e : List ℕ) → AllPairs (λ a b. a ≢ b) xs → i < length xs → is_among (get_or xs i e) (take i xs) ≡ false
before-absent xs i e pairs within =
    absent (get_or xs i e) (take i xs)
    (λ j d below same.
    let short : length (take i xs) ≡ i = length-take-le i xs (omega arith) in
    let lt : j < i = omega arith in
    pairs j i d lt within (sym (get_or-take i xs j d lt) ∙ sym same ∙ get_or_default xs i e d within))
    (is_among (get_or xs i e) (take i xs)) refl

-- where no two places hold one path, a path stands at the one place that holds it
differs : (x y : List ℕ) → x ≢ y → bytes_eq x y ≡ false
differs x y apart = by_test (bytes_eq x y) refl
  where
    by_test : (t : Bool) → bytes_eq x y ≡ t → t ≡ false
    by_test true e = absurd (apart (bytes_eq-same x y e))
    by_test false e = refl

place-is : (xs : List (List ℕ)) (i : ℕ) (d q : List ℕ) → AllPairs (λ a b. a ≢ b) xs → i < length xs → get_or xs i d ≡ q → position (bytes_eq q) xs ≡ Some i
place-is xs i d q pairs within here =
    let place : position_or_len (bytes_eq q) xs ≡ i =
    position_or_len_is (bytes_eq q) xs i d (omega arith)
    (λ k below. differs q (get_or xs k d) (λ same. pairs k i d below within (sym same ∙ sym here)))
    (λ inside. ap (bytes_eq q) here ∙ bytes_eq-refl q) in
    ap (λ n. cond (nat_lt n (length xs)) (Some n) None) place ∙ ap (λ t. cond t (Some i) None) (lt-ltb i (length xs) within)

pub device-is : (plan : List PlannedDevice) (i : ℕ) (d : PlannedDevice) (q : List ℕ) → AllPairs (λ a b. a ≢ b) (paths plan) → i < length plan → d ≡ get_or plan i d
    → d.path ≡ q → device_at plan q ≡ Some i
device-is plan i d q pairs within at is =
    let long : length (paths plan) ≡ length plan = length-map plan (λ x. x.path) in
    place-is (paths plan) i [] q pairs (omega arith) (get_or-map (λ x. x.path) plan i d [] within ∙ ap (λ x. x.path) (sym at) ∙ is)
