-- The counts of suppliers that aren't bound, lowered one consumer after another.
use Rattle.std.proofs.Common.{◌≡◌, ◌≢◌, ◌⊎◌, inl, inr, ◌<◌, ◌≤◌, ◌+◌, ◌-◌, ℕ, zero, suc, Bool, true, false, cond, List, [], ◌∷◌, ◌++◌, length, set, get_or, drop, map, eqb, refl, sym, ap, ap₂, ◌∙◌, subst, arith, length-set, eq-eqb, ne_eqb, ◌&&◌, ◌||◌}
use Rattle.std.specs.Prelude.{All}
use Rattle.std.specs.List.{range_with_len, filter, list_any}
use Rattle.std.proofs.lemmas.List.Elements.{All-head, All-tail}
use Rattle.bus_plan.specs.Plan.{PlannedDevice, nothing}
use Rattle.bus_plan.specs.Consumers.{has_supplier}
use Rattle.std.proofs.lemmas.Bool.{cases_lt, cases_eq, and_right}
use Rattle.std.proofs.lemmas.List.{get_or-set_same, get_or-set_other, get_or_past, drop_more}

-- ---- lists over a range
pub map-range_more : {X : Type 0} (f : ℕ → X) (n a : ℕ) → map f (range_with_len a (suc n)) ≡ map f (range_with_len a n) ++ f (a + n) ∷ []
map-range_more f zero a = ap (λ k. f k ∷ []) (omega arith)
map-range_more f (suc n) a =
    let next : a + 1 + n ≡ a + suc n = omega arith
    in ap (λ xs. f a ∷ xs) (map-range_more f n (a + 1) ∙ ap (λ k. map f (range_with_len (a + 1) n) ++ f k ∷ []) next)

pub map-range_push : {X : Type 0} (f : ℕ → X) (i : ℕ) (xs new : List X) (x : X) → xs ≡ map f (range_with_len 0 i) → new ≡ xs ++ x ∷ [] → x ≡ f i → new ≡ map f (range_with_len 0 (i + 1))
map-range_push f i xs new x before added is =
    let one : i + 1 ≡ suc i = omega arith
    in let none : 0 + i ≡ i = omega arith
    in added ∙ ap₂ (λ ys y. ys ++ y ∷ []) before (is ∙ ap f (sym none)) ∙ sym (ap (λ k. map f (range_with_len 0 k)) one ∙ map-range_more f i 0)

pub get_or-map_range : {X : Type 0} (f : ℕ → X) (e : X) (n a d : ℕ) → a ≤ d → d < a + n → get_or (map f (range_with_len a n)) (d - a) e ≡ f d
get_or-map_range f e zero a d above below = absurd (omega arith)
get_or-map_range f e (suc n) a d above below = elim (cases_eq a d) [
  | inl same ↦
      let none : d - a ≡ 0 = omega arith
      in ap (λ k. get_or (f a ∷ map f (range_with_len (a + 1) n)) k e) none ∙ ap f same
  | inr other ↦
      let more : d - a ≡ suc (d - (a + 1)) = omega arith
      in ap (λ k. get_or (f a ∷ map f (range_with_len (a + 1) n)) k e) more ∙ get_or-map_range f e n (a + 1) d (omega arith) (omega arith)
]

-- ---- one consumer after another
abbrev pub one_less : List ℕ → ℕ → List ℕ
one_less counts c = set counts c (get_or counts c 0 - 1)

abbrev pub lowered : List ℕ → List ℕ → List ℕ
lowered counts [] = counts
lowered counts (c ∷ cs) = lowered (one_less counts c) cs

-- each gets its mark by its new count
abbrev pub marked : (ℕ → ℕ → Bool) → List ℕ → List Bool → List ℕ → List Bool
marked mark counts flags [] = flags
marked mark counts flags (c ∷ cs) = marked mark (one_less counts c) (set flags c (mark c (get_or counts c 0 - 1))) cs

-- no count is lowered below nothing
abbrev pub IsPositive : List ℕ → List ℕ → Type 0
IsPositive counts [] = Unit {0}
IsPositive counts (c ∷ cs) = (0 < get_or counts c 0) × IsPositive (one_less counts c) cs

-- a first consumer that may be left out
lowered-cond : (b : Bool) (counts : List ℕ) (c : ℕ) (cs : List ℕ) → lowered counts (cond b (c ∷ cs) cs) ≡ lowered (cond b (one_less counts c) counts) cs
lowered-cond true counts c cs = refl
lowered-cond false counts c cs = refl

marked-cond : (b : Bool) (mark : ℕ → ℕ → Bool) (counts : List ℕ) (flags : List Bool) (c : ℕ) (cs : List ℕ)
    → marked mark counts flags (cond b (c ∷ cs) cs) ≡ marked mark (cond b (one_less counts c) counts) (cond b (set flags c (mark c (get_or counts c 0 - 1))) flags) cs
marked-cond true mark counts flags c cs = refl
marked-cond false mark counts flags c cs = refl

positive-cond : (b : Bool) (counts : List ℕ) (c : ℕ) (cs : List ℕ) → (b ≡ true → 0 < get_or counts c 0) → IsPositive (cond b (one_less counts c) counts) cs → IsPositive counts (cond b (c ∷ cs) cs)
positive-cond true counts c cs here rest = (here refl, rest)
positive-cond false counts c cs here rest = rest

positive-within : (counts : List ℕ) (c : ℕ) → 0 < get_or counts c 0 → c < length counts
positive-within counts c some = elim (cases_lt c (length counts)) [
  | inl within ↦ within
  | inr past ↦ absurd (omega (arith, get_or_past counts c 0 past))
]

-- the first of the consumers that are left, c, is lowered at its place, and gets its mark by what is left there
pub lower-step : (mark : ℕ → ℕ → Bool) (cs counts : List ℕ) (flags new : List Bool) (i c e : ℕ) (b : Bool)
    → i < length cs → c ≡ get_or cs i c → e ≡ c → IsPositive counts (drop i cs) → new ≡ set flags c b → b ≡ mark c (get_or (one_less counts e) e 0)
    → IsPositive (one_less counts e) (drop (i + 1) cs)
    × ((lowered (one_less counts e) (drop (i + 1) cs) ≡ lowered counts (drop i cs)) × (marked mark (one_less counts e) new (drop (i + 1) cs) ≡ marked mark counts flags (drop i cs)))
lower-step mark cs counts flags new i c e b within is same some put says =
    let rest = drop (i + 1) cs
    in let first : drop i cs ≡ c ∷ rest = drop_more cs i c within ∙ ap (λ x. x ∷ rest) (sym is)
    in let positive : IsPositive counts (c ∷ rest) = subst (IsPositive counts) first some
    in let here : get_or (one_less counts c) c 0 ≡ get_or counts c 0 - 1 = get_or-set_same counts c (get_or counts c 0 - 1) 0 (positive-within counts c positive.0)
    in let marks : new ≡ set flags c (mark c (get_or counts c 0 - 1)) =
    put ∙ ap (set flags c) (says ∙ ap (λ k. mark c (get_or (one_less counts k) k 0)) same ∙ ap (mark c) here)
    in (
      subst (λ k. IsPositive (one_less counts k) rest) (sym same) positive.1,
      (
        ap (λ k. lowered (one_less counts k) rest) same ∙ sym (ap (lowered counts) first),
        (λ j. marked mark (one_less counts (same j)) (marks j) rest) ∙ sym (ap (marked mark counts flags) first),
      ),
    )

less-other : (b : Bool) (counts : List ℕ) (c d : ℕ) → d ≢ c → get_or (cond b (one_less counts c) counts) d 0 ≡ get_or counts d 0
less-other true counts c d ne = get_or-set_other counts c d (get_or counts c 0 - 1) 0 ne
less-other false counts c d ne = refl

less-same : (b : Bool) (counts : List ℕ) (c : ℕ) → (b ≡ true → 0 < get_or counts c 0) → get_or (cond b (one_less counts c) counts) c 0 ≡ cond b (get_or counts c 0 - 1) (get_or counts c 0)
less-same true counts c some = get_or-set_same counts c (get_or counts c 0 - 1) 0 (positive-within counts c (some refl))
less-same false counts c some = refl

mark-other : (b : Bool) (flags : List Bool) (c d : ℕ) (x : Bool) → d ≢ c → get_or (cond b (set flags c x) flags) d false ≡ get_or flags d false
mark-other true flags c d x ne = get_or-set_other flags c d x false ne
mark-other false flags c d x ne = refl

mark-same : (b : Bool) (flags : List Bool) (c : ℕ) (x : Bool) → (b ≡ true → c < length flags) → get_or (cond b (set flags c x) flags) c false ≡ cond b x (get_or flags c false)
mark-same true flags c x within = get_or-set_same flags c x false (within refl)
mark-same false flags c x within = refl

mark-length : (b : Bool) (flags : List Bool) (c : ℕ) (x : Bool) → length (cond b (set flags c x) flags) ≡ length flags
mark-length true flags c x = length-set flags c x
mark-length false flags c x = refl

abbrev get_or_zero : List ℕ → ℕ → ℕ
get_or_zero counts d = get_or counts d 0

outside_not : (a n d : ℕ) → (d < a) ⊎ (a + n ≤ d) → 0 < n → d ≡ a → ⊥
outside_not a n d (inl below) some same = absurd (omega arith)
outside_not a n d (inr above) some same = absurd (omega arith)

abbrev pub consumers_from : (ℕ → Bool) → ℕ → ℕ → List ℕ
consumers_from p a n = filter p (range_with_len a n)

pub consumers-positive : (p : ℕ → Bool) (n a : ℕ) (counts : List ℕ) → ((e : ℕ) → a ≤ e → p e ≡ true → 0 < get_or counts e 0) → IsPositive counts (consumers_from p a n)
consumers-positive p zero a counts some = tt
consumers-positive p (suc n) a counts some =
    positive-cond (p a) counts a (consumers_from p (a + 1) n) (some a (omega arith))
    (consumers-positive p n (a + 1) (cond (p a) (one_less counts a) counts)
    (λ e above held.
    let ne : e ≢ a = λ x. absurd (omega arith)
    in subst (λ k. 0 < k) (sym (less-other (p a) counts a e ne)) (some e (omega arith) held)))

lowered-outside : (p : ℕ → Bool) (n a d : ℕ) (counts : List ℕ) → (d < a) ⊎ (a + n ≤ d) → get_or (lowered counts (consumers_from p a n)) d 0 ≡ get_or counts d 0
lowered-outside p zero a d counts out = refl
lowered-outside p (suc n) a d counts out =
    let ne : d ≢ a = λ x. outside_not a (suc n) d out (omega arith) x
    in let further : (d < a + 1) ⊎ (a + 1 + n ≤ d) = elim out [ inl below ↦ inl (omega arith) | inr above ↦ inr (omega arith) ]
    in ap (λ x. get_or x d 0) (lowered-cond (p a) counts a (consumers_from p (a + 1) n))
    ∙ lowered-outside p n (a + 1) d (cond (p a) (one_less counts a) counts) further ∙ less-other (p a) counts a d ne

pub lowered-inside : (p : ℕ → Bool) (n a d : ℕ) (counts : List ℕ) → ((e : ℕ) → a ≤ e → p e ≡ true → 0 < get_or counts e 0) → a ≤ d → d < a + n
    → get_or (lowered counts (consumers_from p a n)) d 0 ≡ cond (p d) (get_or counts d 0 - 1) (get_or counts d 0)
lowered-inside p zero a d counts some above below = absurd (omega arith)
lowered-inside p (suc n) a d counts some above below =
    ap (λ x. get_or x d 0) (lowered-cond (p a) counts a (consumers_from p (a + 1) n)) ∙ elim (cases_eq d a) [
      | inl same ↦
          lowered-outside p n (a + 1) d (cond (p a) (one_less counts a) counts) (inl (omega arith))
          ∙ ap (get_or_zero (cond (p a) (one_less counts a) counts)) same
          ∙ less-same (p a) counts a (some a (omega arith))
          ∙ ap (λ k. cond (p k) (get_or counts k 0 - 1) (get_or counts k 0)) (sym same)
      | inr other ↦
          lowered-inside p n (a + 1) d (cond (p a) (one_less counts a) counts)
          (λ e above held.
          let ne : e ≢ a = λ x. absurd (omega arith)
          in subst (λ k. 0 < k) (sym (less-other (p a) counts a e ne)) (some e (omega arith) held))
          (omega arith) (omega arith)
          ∙ ap (λ k. cond (p d) (k - 1) k) (less-other (p a) counts a d other)
    ]

marked-outside : (p : ℕ → Bool) (mark : ℕ → ℕ → Bool) (n a d : ℕ) (counts : List ℕ) (flags : List Bool) → (d < a) ⊎ (a + n ≤ d) → get_or (marked mark counts flags (consumers_from p a n)) d false ≡ get_or flags d false
marked-outside p mark zero a d counts flags out = refl
marked-outside p mark (suc n) a d counts flags out =
    let ne : d ≢ a = λ x. outside_not a (suc n) d out (omega arith) x
    in let further : (d < a + 1) ⊎ (a + 1 + n ≤ d) = elim out [ inl below ↦ inl (omega arith) | inr above ↦ inr (omega arith) ]
    in ap (λ x. get_or x d false) (marked-cond (p a) mark counts flags a (consumers_from p (a + 1) n))
    ∙ marked-outside p mark n (a + 1) d (cond (p a) (one_less counts a) counts) (cond (p a) (set flags a (mark a (get_or counts a 0 - 1))) flags) further
    ∙ mark-other (p a) flags a d (mark a (get_or counts a 0 - 1)) ne

pub marked-inside : (p : ℕ → Bool) (mark : ℕ → ℕ → Bool) (n a d : ℕ) (counts : List ℕ) (flags : List Bool) → a + n ≤ length flags → a ≤ d → d < a + n
    → get_or (marked mark counts flags (consumers_from p a n)) d false ≡ cond (p d) (mark d (get_or counts d 0 - 1)) (get_or flags d false)
marked-inside p mark zero a d counts flags long above below = absurd (omega arith)
marked-inside p mark (suc n) a d counts flags long above below =
    let first = mark a (get_or counts a 0 - 1)
    in ap (λ x. get_or x d false) (marked-cond (p a) mark counts flags a (consumers_from p (a + 1) n)) ∙ elim (cases_eq d a) [
      | inl same ↦
          marked-outside p mark n (a + 1) d (cond (p a) (one_less counts a) counts) (cond (p a) (set flags a first) flags) (inl (omega arith))
          ∙ ap (λ k. get_or (cond (p a) (set flags a first) flags) k false) same
          ∙ mark-same (p a) flags a first (λ _. omega arith)
          ∙ ap (λ k. cond (p k) (mark k (get_or counts k 0 - 1)) (get_or flags k false)) (sym same)
      | inr other ↦
          marked-inside p mark n (a + 1) d (cond (p a) (one_less counts a) counts) (cond (p a) (set flags a first) flags)
          (omega (arith, mark-length (p a) flags a first)) (omega arith) (omega arith)
          ∙ ap₂ (λ k b. cond (p d) (mark d (k - 1)) b) (less-other (p a) counts a d other) (mark-other (p a) flags a d first other)
    ]

-- ---- all consumers
pub lowered-all : (p : ℕ → Bool) (n d : ℕ) (counts : List ℕ) → (n ≤ d → p d ≡ false) → ((e : ℕ) → p e ≡ true → 0 < get_or counts e 0)
    → get_or (lowered counts (consumers_from p 0 n)) d 0 ≡ cond (p d) (get_or counts d 0 - 1) (get_or counts d 0)
lowered-all p n d counts none some = elim (cases_lt d n) [
  | inl within ↦ lowered-inside p n 0 d counts (λ e _ held. some e held) (omega arith) (omega arith)
  | inr past ↦ lowered-outside p n 0 d counts (inr (omega arith)) ∙ ap (λ b. cond b (get_or counts d 0 - 1) (get_or counts d 0)) (sym (none past))
]

cond-again : (b : Bool) (mark : ℕ → Bool) (x : ℕ) (y : Bool) → cond b (mark (x - 1)) y ≡ cond b (mark (cond b (x - 1) x)) y
cond-again true mark x y = refl
cond-again false mark x y = refl

pub marked-all : (p : ℕ → Bool) (mark : ℕ → ℕ → Bool) (n d : ℕ) (counts : List ℕ) (flags : List Bool) → (n ≤ d → p d ≡ false) → n ≤ length flags
    → get_or (marked mark counts flags (consumers_from p 0 n)) d false ≡ cond (p d) (mark d (cond (p d) (get_or counts d 0 - 1) (get_or counts d 0))) (get_or flags d false)
marked-all p mark n d counts flags none long = elim (cases_lt d n) [
  | inl within ↦ marked-inside p mark n 0 d counts flags (omega arith) (omega arith) (omega arith) ∙ cond-again (p d) (mark d) (get_or counts d 0) (get_or flags d false)
  | inr past ↦
      marked-outside p mark n 0 d counts flags (inr (omega arith))
      ∙ ap (λ b. cond b (mark d (cond (p d) (get_or counts d 0 - 1) (get_or counts d 0))) (get_or flags d false)) (sym (none past))
]

pub past-supplier : (plan : List PlannedDevice) (s d : ℕ) → length plan ≤ d → has_supplier plan d s ≡ false
past-supplier plan s d past = ap (λ x. list_any (λ e. eqb e s) x.suppliers) (get_or_past plan d nothing past)

-- ---- a supplier by its consumers
any-cond : (b : Bool) (d x : ℕ) (xs : List ℕ) → list_any (λ c. eqb c d) (cond b (x ∷ xs) xs) ≡ ((b && eqb x d) || list_any (λ c. eqb c d) xs)
any-cond true d x xs = refl
any-cond false d x xs = refl

any-below : (p : ℕ → Bool) (d n a : ℕ) → d < a → list_any (λ c. eqb c d) (consumers_from p a n) ≡ false
any-below p d zero a below = refl
any-below p d (suc n) a below =
    any-cond (p a) d a (consumers_from p (a + 1) n)
    ∙ ap₂ (λ x y. x || y) (and_right (p a) (eqb a d) (ne_eqb a d (λ e. absurd (omega arith)))) (any-below p d n (a + 1) (omega arith))

any-first : (b : Bool) → ((b && true) || false) ≡ b
any-first true = refl
any-first false = refl

any-inside : (p : ℕ → Bool) (d n a : ℕ) → a ≤ d → d < a + n → list_any (λ c. eqb c d) (consumers_from p a n) ≡ p d
any-inside p d zero a above below = absurd (omega arith)
any-inside p d (suc n) a above below = any-cond (p a) d a (consumers_from p (a + 1) n) ∙ elim (cases_eq a d) [
  | inl same ↦
      ap₂ (λ x y. (p a && x) || y) (eq-eqb a d same) (any-below p d n (a + 1) (omega arith)) ∙ any-first (p a) ∙ ap p same
  | inr other ↦ ap₂ (λ x y. x || y) (and_right (p a) (eqb a d) (ne_eqb a d other)) (any-inside p d n (a + 1) (omega arith) (omega arith))
]

-- a device is among the consumers of its suppliers alone
pub among-consumers : (plan : List PlannedDevice) (d s : ℕ) → d < length plan → list_any (λ c. eqb c d) (consumers_from (λ c. has_supplier plan c s) 0 (length plan)) ≡ has_supplier plan d s
among-consumers plan d s within = any-inside (λ c. has_supplier plan c s) d (length plan) 0 (omega arith) (omega arith)

-- what is no device of the plan is nobody's supplier
pub no-supplier : (n s : ℕ) (xs : List ℕ) → All (λ x. x < n) xs → n ≤ s → list_any (λ x. eqb x s) xs ≡ false
no-supplier n s [] all past = refl
no-supplier n s (x ∷ xs) all past =
    let first : x < n = All-head (λ x. x < n) x xs all
    in ap₂ (λ a b. a || b) (ne_eqb x s (λ e. absurd (omega arith))) (no-supplier n s xs (All-tail (λ x. x < n) x xs all) past)

-- ---- marks of all devices, one after another
pub mark-step : (due new : List Bool) (f : ℕ → Bool) (i : ℕ) (b : Bool) → i < length due → new ≡ set due i b → b ≡ f i
    → ((d : ℕ) → d < i → get_or due d false ≡ f d) → (d : ℕ) → d < i + 1 → get_or new d false ≡ f d
mark-step due new f i b within put is before d below = ap (λ x. get_or x d false) put ∙ elim (cases_eq d i) [
  | inl same ↦ ap (λ k. get_or (set due i b) k false) same ∙ get_or-set_same due i b false within ∙ is ∙ ap f (sym same)
  | inr other ↦ get_or-set_other due i d b false other ∙ before d (omega (arith, below, other))
]
