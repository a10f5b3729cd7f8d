-- A chain grows by the supplier that its last device waits for, until it ends.
use Rattle.std.proofs.Common.{◌≡◌, ◌≢◌, inl, inr, ℕ, ◌+◌, ◌-◌, ◌<◌, ◌≤◌, Bool, List, [], ◌∷◌, ◌++◌, Option, Some, None, length, get_or, set, cond, refl, sym, ap, ◌∙◌, subst, arith, length-set, length-append}
use Rattle.std.specs.Prelude.{count_by, is_none}
use Rattle.std.proofs.lemmas.Bool.{cases_eq, cases_lt}
use Rattle.std.proofs.lemmas.List.{get_or-set_same, get_or-set_other, get_or_append_left, get_or_push, get_or_past}
use Rattle.std.proofs.lemmas.List.Sums.{sum_by-set}
use Rattle.bus_plan.specs.Plan.{PlannedDevice}
use Rattle.bus_picture.specs.Why.Chain.{WaitsFor, IsEnd, ClosesCycle, IsChain}
use Rattle.bus_picture.specs.Why.Private.Places.{place_of, AreClear, AreFrom}
use Rattle.bus_picture.specs.declared.why.hold.Cause.{Cause}
use Rattle.bus_picture.specs.declared.why.hold.Cause.TheVariants as cause
use Rattle.bus_picture.proofs.WhyLemmas.HoldLemmas.{closes_more}

-- all devices of the chain have their places, and no other device has one
pub record IsPlaced (plan : List PlannedDevice) (bound : ℕ → Bool) (device : ℕ) (places : List (Option ℕ)) (chain : List ℕ) : Type 0 where
  pub long : length places ≡ length plan
  pub from : AreFrom 0 places chain
  pub all : (i : ℕ) → i < length chain → place_of places (get_or chain i 0) ≡ Some i
  pub hops : (i : ℕ) → i + 1 < length chain → WaitsFor plan bound (get_or chain i 0) (get_or chain (i + 1) 0)
  pub first : 0 < length chain → get_or chain 0 0 ≡ device

-- and there is a next one, which has none
pub record IsFollowed (plan : List PlannedDevice) (bound : ℕ → Bool) (device : ℕ) (places : List (Option ℕ)) (chain : List ℕ) (next : ℕ) : Type 0 where
  pub placed : IsPlaced plan bound device places chain
  pub known : next < length plan
  pub fresh : place_of places next ≡ None
  pub link : (n : ℕ) → length chain ≡ n + 1 → WaitsFor plan bound (get_or chain n 0) next
  pub begins : length chain ≡ 0 → next ≡ device

none_some : {i : ℕ} → None ≡ Some i → ⊥
none_some e = cc

same_some : {i j : ℕ} → Some i ≡ Some j → i ≡ j
same_some e = cc

module _ (plan : List PlannedDevice) (bound : ℕ → Bool) (device : ℕ) (places : List (Option ℕ)) (chain : List ℕ) where
  pub followed_first : length places ≡ length plan → AreClear places → chain ≡ [] → device < length plan → IsFollowed plan bound device places chain device
  followed_first long clear empty known = record {
    placed = record {
      long = long;
      from = λ d i is. absurd (none_some (sym (clear d) ∙ is));
      all = λ i below. absurd (omega (arith, ap length empty));
      hops = λ i below. absurd (omega (arith, ap length empty));
      first = λ below. absurd (omega (arith, ap length empty));
    };
    known = known;
    fresh = clear device;
    link = λ n count. absurd (omega (arith, ap length empty));
    begins = λ _. refl;
  }

  module _ (next : ℕ) (followed : IsFollowed plan bound device places chain next) where
    abbrev placed_next : List (Option ℕ)
    placed_next = set places next (Some (length chain))

    abbrev longer : List ℕ
    longer = chain ++ next ∷ []

    count : length longer ≡ length chain + 1
    count = length-append chain (next ∷ [])

    at_next : place_of placed_next next ≡ Some (length chain)
    at_next = get_or-set_same places next (Some (length chain)) None (omega (arith, followed.placed.long, followed.known))

    last_is : get_or longer (length chain) 0 ≡ next
    last_is = get_or_push chain next 0 (length chain) refl

    from_next : AreFrom 0 placed_next longer
    from_next d i is = elim (cases_eq d next) [
      | inl same ↦
          let here : length chain ≡ i = same_some (sym at_next ∙ ap (λ x. place_of placed_next x) (sym same) ∙ is)
          in (omega arith, omega (arith, count), ap (λ j. get_or longer j 0) (sym here) ∙ last_is ∙ sym same)
      | inr other ↦
          let before : place_of places d ≡ Some i = sym (get_or-set_other places next d (Some (length chain)) None other) ∙ is
          in let found : (0 ≤ i) × (i < length chain) × (get_or chain i 0 ≡ d) = followed.placed.from d i before
          in let below : i < length chain = found.1
          in (omega arith, omega (arith, count), get_or_append_left chain (next ∷ []) 0 i below ∙ found.2)
    ]

    all_next : (i : ℕ) → i < length longer → place_of placed_next (get_or longer i 0) ≡ Some i
    all_next i below = elim (cases_lt i (length chain)) [
      | inl inside ↦
          let stood : place_of places (get_or chain i 0) ≡ Some i = followed.placed.all i inside
          in let other : get_or chain i 0 ≢ next = λ e. none_some (sym followed.fresh ∙ ap (λ x. place_of places x) (sym e) ∙ stood)
          in ap (λ x. place_of placed_next x) (get_or_append_left chain (next ∷ []) 0 i inside) ∙ get_or-set_other places next (get_or chain i 0) (Some (length chain)) None other ∙ stood
      | inr past ↦
          let last : length chain ≡ i = omega (arith, count)
          in ap (λ j. place_of placed_next (get_or longer j 0)) (sym last) ∙ ap (λ x. place_of placed_next x) last_is ∙ at_next ∙ ap (λ j. Some j) last
    ]

    hops_next : (i : ℕ) → i + 1 < length longer → WaitsFor plan bound (get_or longer i 0) (get_or longer (i + 1) 0)
    hops_next i below = elim (cases_lt (i + 1) (length chain)) [
      | inl inside ↦
          let one : get_or longer i 0 ≡ get_or chain i 0 = get_or_append_left chain (next ∷ []) 0 i (omega arith)
          in let two : get_or longer (i + 1) 0 ≡ get_or chain (i + 1) 0 = get_or_append_left chain (next ∷ []) 0 (i + 1) inside
          in coe 1 0 (k. WaitsFor plan bound (one k) (two k)) (followed.placed.hops i inside)
      | inr past ↦
          let long : length chain ≡ i + 1 = omega (arith, count)
          in let one : get_or longer i 0 ≡ get_or chain i 0 = get_or_append_left chain (next ∷ []) 0 i (omega arith)
          in let two : get_or longer (i + 1) 0 ≡ next = get_or_push chain next 0 (i + 1) long
          in coe 1 0 (k. WaitsFor plan bound (one k) (two k)) (followed.link i long)
    ]

    first_next : get_or longer 0 0 ≡ device
    first_next = elim (cases_lt 0 (length chain)) [
      | inl some ↦ get_or_append_left chain (next ∷ []) 0 0 some ∙ followed.placed.first some
      | inr none ↦ get_or_push chain next 0 0 (omega arith) ∙ followed.begins (omega arith)
    ]

    pub placed_longer : IsPlaced plan bound device placed_next longer
    placed_longer = record {
      long = length-set places next (Some (length chain)) ∙ followed.placed.long;
      from = from_next;
      all = all_next;
      hops = hops_next;
      first = λ _. first_next;
    }

    pub placed_after : (places' : List (Option ℕ)) (chain' : List ℕ) → places' ≡ placed_next → chain' ≡ longer → IsPlaced plan bound device places' chain'
    placed_after places' chain' p c = coe 1 0 (i. IsPlaced plan bound device (p i) (c i)) placed_longer

    pub last_after : (chain' : List ℕ) → chain' ≡ longer → (length chain' ≡ length chain + 1) × (get_or chain' (length chain) 0 ≡ next)
    last_after chain' c = (ap length c ∙ count, ap (λ xs. get_or xs (length chain) 0) c ∙ last_is)

    -- the place of one more is taken
    pub fewer_free : count_by is_none placed_next < count_by is_none places
    fewer_free =
        let f : Option ℕ → ℕ = λ o. cond (is_none o) 1 0
        in let sums : count_by is_none placed_next + f (place_of places next) ≡ count_by is_none places + f (Some (length chain)) =
        sum_by-set (λ o. cond (is_none o) 1 0) places next (Some (length chain)) None (omega (arith, followed.placed.long, followed.known))
        in let free : f (place_of places next) ≡ 1 = ap f followed.fresh
        in let taken : f (Some (length chain)) ≡ 0 = refl
        in omega arith

-- a chain with all places ends at what its last device is
module _ (plan : List PlannedDevice) (bound : ℕ → Bool) (device : ℕ) (places : List (Option ℕ)) (chain : List ℕ) (n last : ℕ)
    (placed : IsPlaced plan bound device places chain) (long : length chain ≡ n + 1) (is_last : get_or chain n 0 ≡ last) where
  apart : (i j : ℕ) → i < j → j < length chain → get_or chain i 0 ≢ get_or chain j 0
  apart i j less below same =
      let two : Some i ≡ Some j = sym (placed.all i (omega arith)) ∙ ap (λ x. place_of places x) same ∙ placed.all j below
      in let one : i ≡ j = same_some two
      in absurd (omega arith)

  at_end : get_or chain (length chain - 1) 0 ≡ last
  at_end = ap (λ i. get_or chain i 0) (omega arith) ∙ is_last

  pub chain_ends : (why : Cause) → IsEnd plan bound last why → ClosesCycle [] why → IsChain plan bound device chain why
  chain_ends why is closes = record {
    some = omega arith;
    first = placed.first (omega arith);
    hops = placed.hops;
    once = λ i j less below. apart i j less (omega arith);
    ends = subst (λ d. IsEnd plan bound d why) (sym at_end) is;
    closes = closes_more chain why closes;
  }

  module _ (next : ℕ) (waits : WaitsFor plan bound last next) where
    link : (m : ℕ) → length chain ≡ m + 1 → WaitsFor plan bound (get_or chain m 0) next
    link m count =
        let same : m ≡ n = omega arith
        in subst (λ d. WaitsFor plan bound d next) (sym (ap (λ i. get_or chain i 0) same ∙ is_last)) waits

    -- goes on where the next device has no place
    pub followed_next : next < length plan → place_of places next ≡ None → IsFollowed plan bound device places chain next
    followed_next known fresh = record {
      placed = placed;
      known = known;
      fresh = fresh;
      link = link;
      begins = λ empty. absurd (omega arith);
    }

    abbrev closed : List ℕ
    closed = chain ++ next ∷ []

    closed_long : length closed ≡ length chain + 1
    closed_long = length-append chain (next ∷ [])

    hops_closed : (i : ℕ) → i + 1 < length closed → WaitsFor plan bound (get_or closed i 0) (get_or closed (i + 1) 0)
    hops_closed i below = elim (cases_lt (i + 1) (length chain)) [
      | inl inside ↦
          let one : get_or closed i 0 ≡ get_or chain i 0 = get_or_append_left chain (next ∷ []) 0 i (omega arith)
          in let two : get_or closed (i + 1) 0 ≡ get_or chain (i + 1) 0 = get_or_append_left chain (next ∷ []) 0 (i + 1) inside
          in coe 1 0 (k. WaitsFor plan bound (one k) (two k)) (placed.hops i inside)
      | inr past ↦
          let end : length chain ≡ i + 1 = omega (arith, closed_long)
          in let one : get_or closed i 0 ≡ get_or chain i 0 = get_or_append_left chain (next ∷ []) 0 i (omega arith)
          in let two : get_or closed (i + 1) 0 ≡ next = get_or_push chain next 0 (i + 1) end
          in coe 1 0 (k. WaitsFor plan bound (one k) (two k)) (link i end)
    ]

    once_closed : (i j : ℕ) → i < j → j + 1 < length closed → get_or closed i 0 ≢ get_or closed j 0
    once_closed i j less below same =
        let inside : j < length chain = omega (arith, closed_long)
        in let one : get_or closed i 0 ≡ get_or chain i 0 = get_or_append_left chain (next ∷ []) 0 i (omega arith)
        in let two : get_or closed j 0 ≡ get_or chain j 0 = get_or_append_left chain (next ∷ []) 0 j inside
        in apart i j less inside (sym one ∙ same ∙ two)

    -- closes a cycle where it has one
    pub chain_closes : (place : ℕ) → place_of places next ≡ Some place → IsChain plan bound device closed (cause.Cycle place)
    chain_closes place stood =
        let found : (0 ≤ place) × (place < length chain) × (get_or chain place 0 ≡ next) = placed.from next place stood
        in let below : place < length chain = found.1
        in let end : get_or closed (length closed - 1) 0 ≡ next = get_or_push chain next 0 (length closed - 1) (omega (arith, closed_long))
        in record {
          some = omega (arith, closed_long);
          first = get_or_append_left chain (next ∷ []) 0 0 (omega arith) ∙ placed.first (omega arith);
          hops = hops_closed;
          once = once_closed;
          ends = tt;
          closes = (omega (arith, closed_long), get_or_append_left chain (next ∷ []) 0 place below ∙ found.2 ∙ sym end);
        }

    pub from_closed : AreFrom 0 places closed
    from_closed d i is =
        let found : (0 ≤ i) × (i < length chain) × (get_or chain i 0 ≡ d) = placed.from d i is
        in let below : i < length chain = found.1
        in (omega arith, omega (arith, closed_long), get_or_append_left chain (next ∷ []) 0 i below ∙ found.2)

-- ---- the places are taken away one by one
pub cleared : (j : ℕ) (places : List (Option ℕ)) (chain : List ℕ) (x : ℕ) → get_or chain j 0 ≡ x → AreFrom j places chain → AreFrom (j + 1) (set places x None) chain
cleared j places chain x at from d i is = elim (cases_eq d x) [
  | inl same ↦ elim (cases_lt x (length places)) [
    | inl within ↦ absurd (none_some (sym (get_or-set_same places x None None within) ∙ ap (λ y. place_of (set places x None) y) (sym same) ∙ is))
    | inr past ↦ absurd (none_some (sym (get_or_past (set places x None) d None (omega (arith, length-set places x None))) ∙ is))
  ]
  | inr other ↦
      let found : (j ≤ i) × (i < length chain) × (get_or chain i 0 ≡ d) = from d i (sym (get_or-set_other places x d None None other) ∙ is)
      in let least : j ≤ i = found.0
      in let apart : i ≢ j = λ e. other (sym found.2 ∙ ap (λ k. get_or chain k 0) e ∙ at)
      in (omega arith, found.1, found.2)
]

pub cleared_past : (j : ℕ) (places : List (Option ℕ)) (chain : List ℕ) (x : ℕ) → get_or chain j 0 ≡ x → length places ≤ x → AreFrom j places chain → AreFrom (j + 1) places chain
cleared_past j places chain x at past from d i is =
    let found : (j ≤ i) × (i < length chain) × (get_or chain i 0 ≡ d) = from d i is
    in let least : j ≤ i = found.0
    in let apart : i ≢ j = λ e.
    let same : d ≡ x = sym found.2 ∙ ap (λ k. get_or chain k 0) e ∙ at
    in none_some (sym (get_or_past places d None (omega arith)) ∙ is)
    in (omega arith, found.1, found.2)

pub all_clear : (j : ℕ) (places : List (Option ℕ)) (chain : List ℕ) → length chain ≤ j → AreFrom j places chain → AreClear places
all_clear j places chain all from d = at (place_of places d) refl
  where
    at : (o : Option ℕ) → place_of places d ≡ o → place_of places d ≡ None
    at None is = is
    at (Some i) is =
        let found : (j ≤ i) × (i < length chain) × (get_or chain i 0 ≡ d) = from d i is
        in let least : j ≤ i = found.0
        in let below : i < length chain = found.1
        in absurd (omega arith)

pub none_by : (o : Option ℕ) → ((x : ℕ) → o ≡ Some x → ⊥) → o ≡ None
none_by None other = refl
none_by (Some x) other = absurd (other x refl)
