-- The consumers of each device, gathered device by device.
use Rattle.std.proofs.Common.{◌≡◌, ◌≢◌, ◌∙◌, ap, sym, refl, ℕ, ◌+◌, ◌<◌, Bool, true, false, List, [], ◌∷◌, ◌++◌, length, get_or, set, map, take, replicate, arith, append-nil}
use Rattle.std.specs.Prelude.{if◌then◌else◌, AllPairs, ◌==◌, ◌||◌, filter}
use Rattle.std.specs.List.{list_any, range_with_len}
use Rattle.std.proofs.lemmas.Bool.{eqb-true, ne_eqb, eq-eqb}
use Rattle.std.proofs.lemmas.List.{get_or-set_same, get_or-set_other, length-set, map-id, get_or-replicate, length-replicate, length-take-le, get_or-take, get_or_default}
use Rattle.std.proofs.lemmas.List.Folds.{list_any_more, list_any_none}
use Rattle.std.proofs.lemmas.List.FromFn.{filter_of_map_range_with_len_more, fill_by_all}
use Rattle.bus_plan.specs.Plan.{PlannedDevice, suppliers_of}
use Rattle.bus_plan.specs.Consumers.{devices, has_supplier, consumers_of}
use Rattle.bus_plan.specs.Private.DeviceLists.{added, IsAdded}

-- ---- one consumer, put behind the lists of the suppliers so far
pub added-none : (lists : List (List ℕ)) (consumer : ℕ) → IsAdded lists lists consumer []
added-none lists consumer = record { count = refl; lists = λ d within. sym (append-nil (get_or lists d [])) }

-- a supplier is none of those before it
not-before : (suppliers : List ℕ) (j : ℕ) → AllPairs (λ a b. a ≢ b) suppliers → j < length suppliers → list_any (λ s. s == get_or suppliers j 0) (take j suppliers) ≡ false
not-before suppliers j apart within =
    list_any_none (λ s. s == get_or suppliers j 0) (take j suppliers)
    (λ i x below.
    let short : length (take j suppliers) ≡ j = length-take-le j suppliers (omega arith) in
    let lt : i < j = omega arith in
    ap (λ s. s == get_or suppliers j 0) (get_or-take j suppliers i x lt) ∙ ne_eqb (get_or suppliers i x) (get_or suppliers j 0) (λ e. apart i j x lt within (e ∙ get_or_default suppliers j 0 x within)))

pub added-more : (old mid new : List (List ℕ)) (consumer : ℕ) (suppliers : List ℕ) (j : ℕ)
    → IsAdded old mid consumer (take j suppliers) → AllPairs (λ a b. a ≢ b) suppliers → j < length suppliers → get_or suppliers j 0 < length old
    → new ≡ set mid (get_or suppliers j 0) (get_or mid (get_or suppliers j 0) [] ++ consumer ∷ [])
    → IsAdded old new consumer (take (j + 1) suppliers)
added-more old mid new consumer suppliers j walk apart within known put = record {
  count = ap length put ∙ length-set mid (get_or suppliers j 0) (get_or mid (get_or suppliers j 0) [] ++ consumer ∷ []) ∙ walk.count;
  lists = λ d here. by_test d here (get_or suppliers j 0 == d) refl;
}
  where
    by_test : (d : ℕ) → d < length old → (t : Bool) → (get_or suppliers j 0 == d) ≡ t → get_or new d [] ≡ get_or old d [] ++ added consumer (take (j + 1) suppliers) d
    by_test d here true e =
        let s : ℕ = get_or suppliers j 0 in
        let same : s ≡ d = eqb-true s d e in
        let count : length mid ≡ length old = walk.count in
        let absent : list_any (λ s. s == d) (take j suppliers) ≡ false = ap (λ k. list_any (λ s. s == k) (take j suppliers)) (sym same) ∙ not-before suppliers j apart within in
        let present : list_any (λ s. s == d) (take (j + 1) suppliers) ≡ true = list_any_more (λ s. s == d) suppliers j 0 within ∙ ap (λ t. list_any (λ s. s == d) (take j suppliers) || t) e ∙ ap (λ t. t || true) absent in
        let before : get_or mid d [] ≡ get_or old d [] = walk.lists d here ∙ ap (λ t. get_or old d [] ++ (if t then consumer ∷ [] else [])) absent ∙ append-nil (get_or old d []) in
        ap (λ ls. get_or ls d []) put ∙ ap (λ k. get_or (set mid k (get_or mid k [] ++ consumer ∷ [])) d []) same
        ∙ get_or-set_same mid d (get_or mid d [] ++ consumer ∷ []) [] (omega arith)
        ∙ ap (λ l. l ++ consumer ∷ []) before ∙ ap (λ t. get_or old d [] ++ (if t then consumer ∷ [] else [])) (sym present)
    by_test d here false e =
        let s : ℕ = get_or suppliers j 0 in
        let other : d ≢ s = λ is. absurd (cc (eq-eqb s d (sym is))) in
        let kept : list_any (λ s. s == d) (take (j + 1) suppliers) ≡ list_any (λ s. s == d) (take j suppliers) =
        list_any_more (λ s. s == d) suppliers j 0 within ∙ ap (λ t. list_any (λ s. s == d) (take j suppliers) || t) e ∙ or-false (list_any (λ s. s == d) (take j suppliers)) in
        ap (λ ls. get_or ls d []) put ∙ get_or-set_other mid s d (get_or mid s [] ++ consumer ∷ []) [] other
        ∙ walk.lists d here ∙ ap (λ t. get_or old d [] ++ (if t then consumer ∷ [] else [])) (sym kept)
      where
        or-false : (b : Bool) → (b || false) ≡ b
        or-false true = refl
        or-false false = refl

-- ---- all consumers before a place
pub record IsGathered (plan : List PlannedDevice) (n : ℕ) (lists : List (List ℕ)) : Type 0 where
  pub count : length lists ≡ length plan
  pub lists_are : (d : ℕ) → d < length plan → get_or lists d [] ≡ filter (λ c. has_supplier plan c d) (range_with_len 0 n)

pub gathered-none : (plan : List PlannedDevice) (lists : List (List ℕ)) → lists ≡ replicate (length plan) [] → IsGathered plan 0 lists
gathered-none plan lists empty = record {
  count = ap length empty ∙ length-replicate (length plan) [];
  lists_are = λ d within. ap (λ ls. get_or ls d []) empty ∙ get_or-replicate (length plan) d [] [] within;
}

filter-range_more : (p : ℕ → Bool) (n : ℕ) → filter p (range_with_len 0 (n + 1)) ≡ filter p (range_with_len 0 n) ++ (if p n then n ∷ [] else [])
filter-range_more p n =
    ap (filter p) (sym (map-id (range_with_len 0 (n + 1)))) ∙ filter_of_map_range_with_len_more p (λ x. x) 0 n n (omega arith)
    ∙ ap (λ xs. filter p xs ++ (if p n then n ∷ [] else [])) (map-id (range_with_len 0 n))

pub gathered-more : (plan : List PlannedDevice) (n : ℕ) (old new : List (List ℕ)) → IsGathered plan n old → IsAdded old new n (suppliers_of plan n) → IsGathered plan (n + 1) new
gathered-more plan n old new walk step =
    let count : length old ≡ length plan = walk.count in
    record {
      count = step.count ∙ walk.count;
      lists_are = λ d within.
          step.lists d (omega arith) ∙ ap (λ l. l ++ added n (suppliers_of plan n) d) (walk.lists_are d within)
          ∙ sym (filter-range_more (λ c. has_supplier plan c d) n);
    }

pub gathered-all : (plan : List PlannedDevice) (n : ℕ) (lists : List (List ℕ)) → n ≡ length plan → IsGathered plan n lists → lists ≡ map (consumers_of plan) (devices plan)
gathered-all plan n lists all walk =
    fill_by_all (consumers_of plan) lists (length plan) [] walk.count
    (λ d within. walk.lists_are d within ∙ ap (λ k. filter (λ c. has_supplier plan c d) (range_with_len 0 k)) all)
