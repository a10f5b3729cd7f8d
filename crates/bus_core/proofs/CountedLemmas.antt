-- The counts and the due devices of a core, as each event keeps them.
use Rattle.std.proofs.Common.{◌≡◌, ◌≢◌, inl, inr, ◌<◌, ◌≤◌, ◌+◌, ◌-◌, ℕ, suc, Bool, true, false, not, ◌&&◌, ◌||◌, cond, List, [], ◌∷◌, Option, None, length, set, get_or, map, replicate, eqb, refl, sym, ap, ap₂, ◌∙◌, subst, true≢false, arith, length-set, eq-eqb, ne_eqb}
use Rattle.std.specs.Prelude.{is_some, count_by, AllPairs}
use Rattle.std.specs.List.{list_any, list_all, range_with_len}
use Rattle.std.proofs.lemmas.Bool.{cases_eq, cases_lt, cases_Bool}
use Rattle.std.proofs.lemmas.List.{get_or-set_same, get_or-set_other, get_or-map, get_or_past, length-map, map-set}
use Rattle.std.proofs.lemmas.List.FromFn.{get_or-map-range_with_len, length-map-range_with_len}
use Rattle.std.proofs.lemmas.List.Folds.{sum_by-replicate}
use Rattle.std.proofs.lemmas.List.Sums.{sum_by-cons, sum_by-set, get_or-le-sum_by, count_by-le-length}
use Rattle.std.proofs.lemmas.List.Recursion.{or_from_places}
use mathlib.Core.Path.{fun_ext}
use Rattle.bus_plan.specs.Plan.{PlannedDevice, is_matched, suppliers_of, nothing}
use Rattle.bus_plan.specs.Consumers.{has_supplier}
use Rattle.bus_core.specs.declared.phase.Phase.{Phase}
use Rattle.bus_core.specs.declared.phase.Phase.TheVariants.{Fresh, Begun, InFlight, Bound, Failed}
use Rattle.bus_core.specs.declared.settle.Settle.{Settle}
use Rattle.bus_core.specs.CoreState.{Flight}
use Rattle.bus_core.specs.History.{bound_in}
use Rattle.bus_core.specs.RefinementPhase.{phase_at, flight_in, bound_now, bound_by, due_in, due_by, idle_in, state_of}
use Rattle.bus_core.specs.Ready.{is_ready}
use Rattle.bus_core.specs.RefinementCounts.{missing_count, due_with, IsCounted}
use Rattle.bus_core.specs.RefinementSound.{IsSound}
use Rattle.bus_core.proofs.SoundLemmas.{bound-same, due-same, at-same, at-other, idle-unsettled, unsettled-now, fresh-at, first-sound, map-replicate}
use Rattle.bus_core.proofs.SetLemmas.{set-said}
use Rattle.bus_core.proofs.Lists.{or_false}

abbrev zero_or_one : Bool → ℕ
zero_or_one b = cond b 1 0

-- ---- counting those that a test leaves out
abbrev left_out : (ℕ → Bool) → ℕ → ℕ
left_out bound s = cond (not (bound s)) 1 0

abbrev missing_in : (ℕ → Bool) → List ℕ → ℕ
missing_in bound xs = count_by (λ s. not (bound s)) xs

none-missing : (bound : ℕ → Bool) (xs : List ℕ) → eqb (missing_in bound xs) 0 ≡ list_all bound xs
none-missing bound [] = refl
none-missing bound (x ∷ xs) =
    ap (λ n. eqb n 0) (sum_by-cons (left_out bound) x xs) ∙ by_first (bound x) refl (none-missing bound xs)
  where
    by_first : (b : Bool) → bound x ≡ b → eqb (missing_in bound xs) 0 ≡ list_all bound xs → eqb (cond (not b) 1 0 + missing_in bound xs) 0 ≡ (b && list_all bound xs)
    by_first true is rest =
        let same : 0 + missing_in bound xs ≡ missing_in bound xs = omega arith
        in ap (λ n. eqb n 0) same ∙ rest
    by_first false is rest = ne_eqb (1 + missing_in bound xs) 0 (λ e. absurd (omega arith))

-- a device is ready where it is matched and nothing is missing
pub ready-counted : (plan : List PlannedDevice) (bound : ℕ → Bool) (d : ℕ) → (is_matched plan d && eqb (missing_count plan bound d) 0) ≡ is_ready plan bound d
ready-counted plan bound d = ap (λ b. is_matched plan d && b) (none-missing bound (suppliers_of plan d))

-- ---- one more in the set
abbrev also : (ℕ → Bool) → ℕ → ℕ → Bool
also bound d s = bound s || eqb s d

one-more : (bound : ℕ → Bool) (d s : ℕ) → bound d ≡ false → left_out (also bound d) s + cond (eqb s d) 1 0 ≡ left_out bound s
one-more bound d s new = elim (cases_eq s d) [
  | inl same ↦
      ap₂ (λ b c. cond (not (b || c)) 1 0 + cond c 1 0) (ap bound same ∙ new) (eq-eqb s d same) ∙ sym (ap (λ b. cond (not b) 1 0) (ap bound same ∙ new))
  | inr other ↦
      ap (λ c. cond (not (bound s || c)) 1 0 + cond c 1 0) (ne_eqb s d other) ∙ by_bound (bound s)
]
  where
    by_bound : (b : Bool) → cond (not (b || false)) 1 0 + 0 ≡ cond (not b) 1 0
    by_bound true = omega arith
    by_bound false = omega arith

fewer-missing : (bound : ℕ → Bool) (d : ℕ) → bound d ≡ false → (xs : List ℕ) → missing_in (also bound d) xs + count_by (λ s. eqb s d) xs ≡ missing_in bound xs
fewer-missing bound d new [] = omega arith
fewer-missing bound d new (x ∷ xs) =
    omega (arith, sum_by-cons (left_out (also bound d)) x xs, sum_by-cons (λ s. cond (eqb s d) 1 0) x xs, sum_by-cons (left_out bound) x xs, one-more bound d x new, fewer-missing bound d new xs)

absent : (d : ℕ) (xs : List ℕ) → ((k : ℕ) → k < length xs → get_or xs k d ≢ d) → list_any (λ s. eqb s d) xs ≡ false
absent d xs apart = or_from_places (list_any (λ s. eqb s d)) (λ s. eqb s d) refl (λ _ _. refl) xs d (λ k within. ne_eqb (get_or xs k d) d (apart k within))

-- a number stands once in a list of differing ones, or not at all
once : (d : ℕ) (xs : List ℕ) → AllPairs (λ a b. a ≢ b) xs → count_by (λ s. eqb s d) xs ≡ cond (list_any (λ s. eqb s d) xs) 1 0
once d [] apart = refl
once d (x ∷ xs) apart =
    sum_by-cons (λ s. cond (eqb s d) 1 0) x xs ∙ elim (cases_eq x d) [
      | inl same ↦
          let none : list_any (λ s. eqb s d) xs ≡ false = absent d xs (λ k within e. apart 0 (suc k) d (omega arith) (omega arith) (same ∙ sym e))
          in ap₂ (λ b n. cond b 1 0 + n) (eq-eqb x d same) (once d xs (λ i j z below within. apart (suc i) (suc j) z (omega arith) (omega arith)) ∙ ap (λ b. cond b 1 0) none)
          ∙ sym (ap (λ b. cond (b || list_any (λ s. eqb s d) xs) 1 0) (eq-eqb x d same))
      | inr other ↦
          let zero_more : 0 + cond (list_any (λ s. eqb s d) xs) 1 0 ≡ cond (list_any (λ s. eqb s d) xs) 1 0 = omega arith
          in ap₂ (λ b n. cond b 1 0 + n) (ne_eqb x d other) (once d xs (λ i j z below within. apart (suc i) (suc j) z (omega arith) (omega arith)))
          ∙ zero_more ∙ sym (ap (λ b. cond (b || list_any (λ s. eqb s d) xs) 1 0) (ne_eqb x d other))
    ]

-- a consumer waits for one more while its supplier isn't in the set
pub consumer-waits : (plan : List PlannedDevice) (bound : ℕ → Bool) (d e : ℕ) → bound d ≡ false → AllPairs (λ a b. a ≢ b) (suppliers_of plan e) → has_supplier plan e d ≡ true → 0 < missing_count plan bound e
consumer-waits plan bound d e new apart has =
    omega (arith, fewer-missing bound d new (suppliers_of plan e), once d (suppliers_of plan e) apart ∙ ap (λ b. cond b 1 0) has)

lowered-count : (plan : List PlannedDevice) (bound : ℕ → Bool) (d e n : ℕ) (b : Bool) → bound d ≡ false → AllPairs (λ a b. a ≢ b) (suppliers_of plan e)
    → has_supplier plan e d ≡ b → n ≡ missing_count plan bound e → cond b (n - 1) n ≡ missing_count plan (also bound d) e
lowered-count plan bound d e n true new apart has is =
    omega (arith, fewer-missing bound d new (suppliers_of plan e), once d (suppliers_of plan e) apart ∙ ap (λ b. cond b 1 0) has)
lowered-count plan bound d e n false new apart has is =
    omega (arith, fewer-missing bound d new (suppliers_of plan e), once d (suppliers_of plan e) apart ∙ ap (λ b. cond b 1 0) has)

-- ---- flights
abbrev pub flight_weight : Option Flight → ℕ
flight_weight flight = cond (is_some flight) 1 0

flights-set : (phases : List Phase) (d : ℕ) (x : Phase) → d < length phases
    → count_by is_some (map flight_in (set phases d x)) + flight_weight (flight_in (phase_at phases d)) ≡ count_by is_some (map flight_in phases) + flight_weight (flight_in x)
flights-set phases d x within =
    omega (
      arith,
      ap (λ y. count_by is_some y) (map-set flight_in phases d x),
      sum_by-set flight_weight (map flight_in phases) d (flight_in x) None (let inside : d < length (map flight_in phases) = omega (arith, length-map phases flight_in) in inside),
      ap flight_weight (get_or-map flight_in phases d Fresh None within),
    )

-- ---- a device that goes to another phase, with the same devices bound
bound-kept : (phases : List Phase) (d : ℕ) (x : Phase) → d < length phases → bound_now x ≡ bound_now (phase_at phases d) → bound_by (set phases d x) ≡ bound_by phases
bound-kept phases d x within same = fun_ext (λ e. elim (cases_eq e d) [
  | inl is ↦ ap bound_now (at-same phases d e x within is) ∙ same ∙ ap (bound_by phases) (sym is)
  | inr other ↦ ap bound_now (at-other phases d e x other)
])

pub moved-counted : (plan : List PlannedDevice) (phases : List Phase) (h new : List Settle) (n m d : ℕ) (x : Phase) (missing : List ℕ) (due due2 : List Bool) (flights flights2 : ℕ)
    → d < length phases → IsSound plan phases h n → IsSound plan (set phases d x) new m
    → bound_now x ≡ bound_now (phase_at phases d)
    → due2 ≡ set due d (due_in x (is_matched plan d) (is_ready plan (bound_by phases) d))
    → flights2 + flight_weight (flight_in (phase_at phases d)) ≡ flights + flight_weight (flight_in x)
    → IsCounted plan (state_of phases h n) missing due flights → IsCounted plan (state_of (set phases d x) new m) missing due2 flights2
moved-counted plan phases h new n m d x missing due due2 flights flights2 within sound sound2 same put flown counted =
    let bound : bound_in h ≡ bound_in new = sym (bound-same plan phases h n sound) ∙ sym (bound-kept phases d x within same) ∙ bound-same plan (set phases d x) new m sound2
    in let inside : d < length due = omega (arith, counted.due_long, sound.places)
    in record {
      missing_long = counted.missing_long;
      missing_is = λ e. counted.missing_is e ∙ ap (λ b. missing_count plan b e) bound;
      due_long = ap (λ x. length x) put ∙ length-set due d (due_in x (is_matched plan d) (is_ready plan (bound_by phases) d)) ∙ counted.due_long;
      due_is = λ e. ap (λ u. get_or u e false) put ∙ elim (cases_eq e d) [
        | inl is ↦
            ap (λ k. get_or (set due d (due_in x (is_matched plan d) (is_ready plan (bound_by phases) d))) k false) is
            ∙ get_or-set_same due d (due_in x (is_matched plan d) (is_ready plan (bound_by phases) d)) false inside
            ∙ ap (λ k. due_in x (is_matched plan k) (is_ready plan (bound_by phases) k)) (sym is)
            ∙ ap₂ (λ p b. due_in p (is_matched plan e) (is_ready plan b e)) (sym (at-same phases d e x within is)) (sym (bound-kept phases d x within same))
            ∙ due-same plan (set phases d x) new m sound2 e
        | inr other ↦
            get_or-set_other due d e (due_in x (is_matched plan d) (is_ready plan (bound_by phases) d)) false other
            ∙ counted.due_is e ∙ sym (due-same plan phases h n sound e)
            ∙ ap₂ (λ p b. due_in p (is_matched plan e) (is_ready plan b e)) (sym (at-other phases d e x other)) (sym (bound-kept phases d x within same))
            ∙ due-same plan (set phases d x) new m sound2 e
      ];
      flights_is = omega (arith, flown, counted.flights_is, flights-set phases d x within);
    }

-- a device in flight is not due
pub flying-undue : (phase : Phase) (matched ready : Bool) → is_some (flight_in phase) ≡ true → due_in phase matched ready ≡ false
flying-undue Fresh matched ready flying = absurd (true≢false (sym flying))
flying-undue Begun matched ready flying = absurd (true≢false (sym flying))
flying-undue (InFlight attempt settled) matched ready flying = refl
flying-undue (Bound place) matched ready flying = refl
flying-undue Failed matched ready flying = refl

pub flying-unbound : (phase : Phase) → is_some (flight_in phase) ≡ true → bound_now phase ≡ false
flying-unbound Fresh flying = refl
flying-unbound Begun flying = refl
flying-unbound (InFlight attempt settled) flying = refl
flying-unbound (Bound place) flying = absurd (true≢false (sym flying))
flying-unbound Failed flying = refl

-- so it isn't among the due
pub flying-out : (plan : List PlannedDevice) (phases : List Phase) (h : List Settle) (n d : ℕ) (missing : List ℕ) (due : List Bool) (flights : ℕ)
    → IsSound plan phases h n → is_some (flight_in (phase_at phases d)) ≡ true → IsCounted plan (state_of phases h n) missing due flights → due ≡ set due d false
flying-out plan phases h n d missing due flights sound flying counted =
    set-said due d false (counted.due_is d ∙ sym (due-same plan phases h n sound d) ∙ flying-undue (phase_at phases d) (is_matched plan d) (is_ready plan (bound_by phases) d) flying)

pub flying-counts : (plan : List PlannedDevice) (phases : List Phase) (h : List Settle) (n d : ℕ) (missing : List ℕ) (due : List Bool) (flights : ℕ)
    → d < length phases → is_some (flight_in (phase_at phases d)) ≡ true → IsCounted plan (state_of phases h n) missing due flights → 1 ≤ flights
flying-counts plan phases h n d missing due flights within flying counted =
    omega (
      arith,
      counted.flights_is,
      get_or-le-sum_by flight_weight (map flight_in phases) d None (let inside : d < length (map flight_in phases) = omega (arith, length-map phases flight_in) in inside),
      ap flight_weight (get_or-map flight_in phases d Fresh None within),
      ap zero_or_one flying,
    )

-- a device in flight of which so many suppliers are missing is ready where none is
pub ready-missing : (plan : List PlannedDevice) (phases : List Phase) (h : List Settle) (n d k : ℕ) (missing : List ℕ) (due : List Bool) (flights : ℕ)
    → k ≡ get_or missing d 0 → IsSound plan phases h n → IsCounted plan (state_of phases h n) missing due flights
    → (is_matched plan d && eqb k 0) ≡ is_ready plan (bound_by phases) d
ready-missing plan phases h n d k missing due flights is sound counted =
    ap (λ x. is_matched plan d && eqb x 0) (is ∙ counted.missing_is d ∙ ap (λ b. missing_count plan b d) (sym (bound-same plan phases h n sound)))
    ∙ ready-counted plan (bound_by phases) d

-- ---- a bind
also-bound : (phases : List Phase) (d place : ℕ) → d < length phases → bound_now (phase_at phases d) ≡ false → bound_by (set phases d (Bound place)) ≡ also (bound_by phases) d
also-bound phases d place within old = fun_ext (λ e. elim (cases_eq e d) [
  | inl is ↦ ap bound_now (at-same phases d e (Bound place) within is) ∙ sym (ap₂ (λ b c. b || c) (ap (bound_by phases) is ∙ old) (eq-eqb e d is))
  | inr other ↦ ap bound_now (at-other phases d e (Bound place) other) ∙ sym (ap (λ c. bound_by phases e || c) (ne_eqb e d other) ∙ or_false (bound_by phases e))
])

pub bind-waits : (plan : List PlannedDevice) (phases : List Phase) (h : List Settle) (n d : ℕ) (missing : List ℕ) (due : List Bool) (flights : ℕ)
    → ((e : ℕ) → AllPairs (λ a b. a ≢ b) (suppliers_of plan e)) → IsSound plan phases h n → is_some (flight_in (phase_at phases d)) ≡ true → IsCounted plan (state_of phases h n) missing due flights
    → (e : ℕ) → has_supplier plan e d ≡ true → 0 < get_or missing e 0
bind-waits plan phases h n d missing due flights apart sound flying counted e has =
    let unbound : bound_in h d ≡ false = sound.bound d ∙ flying-unbound (phase_at phases d) flying
    in subst (λ k. 0 < k) (sym (counted.missing_is e)) (consumer-waits plan (bound_in h) d e unbound (apart e) has)

pub bind-counted : (plan : List PlannedDevice) (phases : List Phase) (h new : List Settle) (n d place : ℕ) (missing missing2 : List ℕ) (due due2 : List Bool) (flights flights2 : ℕ)
    → ((e : ℕ) → AllPairs (λ a b. a ≢ b) (suppliers_of plan e))
    → d < length phases → is_some (flight_in (phase_at phases d)) ≡ true
    → IsSound plan phases h n → IsSound plan (set phases d (Bound place)) new n
    → length missing2 ≡ length missing
    → ((e : ℕ) → get_or missing2 e 0 ≡ cond (has_supplier plan e d) (get_or missing e 0 - 1) (get_or missing e 0))
    → length due2 ≡ length plan
    → ((e : ℕ) → get_or due2 e false ≡ cond (has_supplier plan e d) (due_with plan e (phase_at (set phases d (Bound place)) e) (get_or missing2 e 0)) (get_or due e false))
    → flights2 + 1 ≡ flights
    → IsCounted plan (state_of phases h n) missing due flights → IsCounted plan (state_of (set phases d (Bound place)) new n) missing2 due2 flights2
bind-counted plan phases h new n d place missing missing2 due due2 flights flights2 apart within flying sound sound2 long lower due_long marks flown counted =
    let phases2 = set phases d (Bound place)
    in let unbound : bound_by phases d ≡ false = flying-unbound (phase_at phases d) flying
    in let bound2 : bound_by phases2 ≡ also (bound_by phases) d = also-bound phases d place within unbound
    in let was : (e : ℕ) → get_or missing e 0 ≡ missing_count plan (bound_by phases) e = λ e. counted.missing_is e ∙ ap (λ b. missing_count plan b e) (sym (bound-same plan phases h n sound))
    in let now : (e : ℕ) → get_or missing2 e 0 ≡ missing_count plan (bound_by phases2) e =
    λ e. lower e ∙ lowered-count plan (bound_by phases) d e (get_or missing e 0) (has_supplier plan e d) unbound (apart e) refl (was e) ∙ ap (λ b. missing_count plan b e) (sym bound2)
    in let ready2 : (e : ℕ) → (is_matched plan e && eqb (get_or missing2 e 0) 0) ≡ is_ready plan (bound_by phases2) e =
    λ e. ap (λ k. is_matched plan e && eqb k 0) (now e) ∙ ready-counted plan (bound_by phases2) e
    in let marked2 : (e : ℕ) → due_with plan e (phase_at phases2 e) (get_or missing2 e 0) ≡ due_by plan phases2 e =
    λ e. ap (λ r. due_in (phase_at phases2 e) (is_matched plan e) r) (ready2 e)
    in let stays : (e : ℕ) → has_supplier plan e d ≡ false → due_by plan phases e ≡ due_by plan phases2 e =
    λ e none. elim (cases_eq e d) [
      | inl is ↦
          ap (due_by plan phases) is ∙ flying-undue (phase_at phases d) (is_matched plan d) (is_ready plan (bound_by phases) d) flying
          ∙ sym (ap (λ p. due_in p (is_matched plan e) (is_ready plan (bound_by phases2) e)) (at-same phases d e (Bound place) within is))
      | inr other ↦
          ap₂ (λ p r. due_in p (is_matched plan e) r) (sym (at-other phases d e (Bound place) other))
          (sym (ready-counted plan (bound_by phases) e) ∙ ap (λ k. is_matched plan e && eqb k 0) (sym (was e) ∙ sym (lower e ∙ ap (λ b. cond b (get_or missing e 0 - 1) (get_or missing e 0)) none)) ∙ ready2 e)
    ]
    in record {
      missing_long = long ∙ counted.missing_long;
      missing_is = λ e. now e ∙ ap (λ b. missing_count plan b e) (bound-same plan phases2 new n sound2);
      due_long = due_long;
      due_is = λ e. marks e ∙ elim (cases_Bool (has_supplier plan e d)) [
        | inl has ↦
            ap (λ b. cond b (due_with plan e (phase_at phases2 e) (get_or missing2 e 0)) (get_or due e false)) has ∙ marked2 e ∙ due-same plan phases2 new n sound2 e
        | inr none ↦
            ap (λ b. cond b (due_with plan e (phase_at phases2 e) (get_or missing2 e 0)) (get_or due e false)) none
            ∙ counted.due_is e ∙ sym (due-same plan phases h n sound e) ∙ stays e none ∙ due-same plan phases2 new n sound2 e
      ];
      flights_is = omega (arith, flown, counted.flights_is, flights-set phases d (Bound place) within, ap zero_or_one flying);
    }

-- ---- an idle device
pub idle-unbound : (phase : Phase) → idle_in phase ≡ true → bound_now phase ≡ false
idle-unbound phase idle = unsettled-now phase (idle-unsettled phase idle)

pub idle-landed : (phase : Phase) → idle_in phase ≡ true → flight_weight (flight_in phase) ≡ 0
idle-landed Fresh idle = refl
idle-landed Begun idle = refl
idle-landed (InFlight attempt settled) idle = absurd (true≢false (sym idle))
idle-landed (Bound place) idle = refl
idle-landed Failed idle = refl

-- one flight more fits among the devices
pub idle-room : (plan : List PlannedDevice) (phases : List Phase) (h : List Settle) (n d : ℕ) (missing : List ℕ) (due : List Bool) (flights : ℕ)
    → d < length phases → idle_in (phase_at phases d) ≡ true → IsCounted plan (state_of phases h n) missing due flights → flights + 1 ≤ length phases
idle-room plan phases h n d missing due flights within idle counted =
    omega (
      arith,
      counted.flights_is,
      flights-set phases d (InFlight 0 0) within,
      idle-landed (phase_at phases d) idle,
      count_by-le-length is_some (map flight_in (set phases d (InFlight 0 0))),
      length-map (set phases d (InFlight 0 0)) flight_in,
      length-set phases d (InFlight 0 0),
    )

-- ---- nothing begun
all-missing : (xs : List ℕ) → length xs ≡ missing_in (bound_in []) xs
all-missing [] = refl
all-missing (x ∷ xs) = omega (arith, sum_by-cons (left_out (bound_in [])) x xs, all-missing xs)

abbrev supplier_count : List PlannedDevice → ℕ → ℕ
supplier_count plan d = length (suppliers_of plan d)

pub first-counted : (plan : List PlannedDevice) (missing : List ℕ) (due : List Bool) → missing ≡ map (supplier_count plan) (range_with_len 0 (length plan))
    → length due ≡ length plan → ((d : ℕ) → get_or due d false ≡ is_matched plan d)
    → IsCounted plan (state_of (replicate (length plan) Fresh) [] 0) missing due 0
first-counted plan missing due counts long matched =
    record {
      missing_long = ap (λ x. length x) counts ∙ length-map-range_with_len (supplier_count plan) 0 (length plan);
      missing_is = λ d. ap (λ x. get_or x d 0) counts ∙ elim (cases_lt d (length plan)) [
        | inl within ↦ get_or-map-range_with_len (supplier_count plan) 0 (length plan) d d 0 within (omega arith) ∙ all-missing (suppliers_of plan d)
        | inr past ↦
            get_or_past (map (supplier_count plan) (range_with_len 0 (length plan))) d 0 (rw (length-map-range_with_len (supplier_count plan) 0 (length plan)) past)
            ∙ sym (ap (λ x. missing_in (bound_in []) x.suppliers) (get_or_past plan d nothing past))
      ];
      due_long = long;
      due_is = λ d. matched d ∙ sym (ap (λ p. due_in p (is_matched plan d) (is_ready plan (bound_by (replicate (length plan) Fresh)) d)) (fresh-at (length plan) d))
          ∙ due-same plan (replicate (length plan) Fresh) [] 0 (first-sound plan) d;
      flights_is = none_flying (length plan) ∙ sym (ap (λ x. count_by is_some x) (map-replicate flight_in (length plan) Fresh));
    }
  where
    none_flying : (n : ℕ) → 0 ≡ count_by is_some (replicate n (flight_in Fresh))
    none_flying n = omega (arith, sum_by-replicate flight_weight n (flight_in Fresh))

pub first-counted_at : (plan : List PlannedDevice) (phases : List Phase) (h : List Settle) (missing : List ℕ) (due : List Bool) → phases ≡ replicate (length plan) Fresh → h ≡ []
    → missing ≡ map (supplier_count plan) (range_with_len 0 (length plan)) → length due ≡ length plan → ((d : ℕ) → get_or due d false ≡ is_matched plan d)
    → IsCounted plan (state_of phases h 0) missing due 0
first-counted_at plan phases h missing due all none counts long matched = coe 1 0 (i. IsCounted plan (state_of (all i) (none i) 0) missing due 0) (first-counted plan missing due counts long matched)
