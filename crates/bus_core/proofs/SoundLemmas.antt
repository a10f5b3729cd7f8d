-- The phases tell what the state says, and each event keeps it so.
use Rattle.std.proofs.Common.{◌≡◌, ◌≢◌, inl, inr, ℕ, zero, suc, ◌+◌, ◌<◌, ◌≤◌, Bool, true, false, not, ◌&&◌, ◌||◌, List, [], ◌∷◌, ◌++◌, None, length, eqb, cond, set, take, map, refl, sym, ap, ap₂, ◌∙◌, true≢false, ne_eqb, eq-eqb, lt-ltb, le-ltb, arith, length-set, take_all}
use Rattle.std.specs.Prelude.{is_some, count_by, replicate}
use Rattle.std.proofs.lemmas.Bool.{cases_lt, cases_eq}
use Rattle.std.proofs.lemmas.List.{get_or-set_same, get_or-set_other, get_or_past, get_or-map, length-map, map-set, set-get_or, take-append-le, get_or-replicate, length-replicate, length_push}
use Rattle.std.proofs.lemmas.List.Sums.{sum_by-set, get_or-le-sum_by}
use Rattle.std.proofs.lemmas.List.Folds.{sum_by-replicate}
use mathlib.Core.Path.{fun_ext}
use Rattle.bus_plan.specs.Plan.{PlannedDevice, is_matched, verdict_of}
use Rattle.bus_core.specs.declared.phase.Phase.{Phase}
use Rattle.bus_core.specs.declared.phase.Phase.TheVariants.{Fresh, Begun, InFlight, Bound, Failed}
use Rattle.bus_core.specs.declared.settle.Outcome.{Outcome}
use Rattle.bus_core.specs.declared.settle.Outcome.TheVariants as outcome
use Rattle.bus_core.specs.declared.settle.Settle.{Settle}
use Rattle.bus_core.specs.declared.limits.TheConstants.{MAX_BEGINS}
use Rattle.bus_core.specs.CoreState.{flight_of, is_in_flight, was_begun, first_state}
use Rattle.bus_core.specs.Due.{is_due, is_idle}
use Rattle.bus_core.specs.History.{outcome_by, is_bound, bound_in, is_settled}
use Rattle.bus_core.specs.RefinementPhase.{phase_at, flight_in, begun_in, settled_in, bound_now, bound_before, settled_phase, bound_by, due_in, due_by, idle_in, state_of}
use Rattle.bus_core.specs.Ready.{is_ready}
use Rattle.bus_core.specs.RefinementSound.{IsSound, unsettled_in}
use Rattle.bus_core.specs.Step.{settle_of, begin_state, without_flight, finish_state}
use Rattle.bus_core.specs.declared.event.Report.TheVariants.{Settled}
use Rattle.bus_core.proofs.HistoryLemmas.{history-push, bound_in-push, is_settled-push, ready-matched}
use Rattle.bus_core.proofs.Lists.{or_false}

-- a phase that isn't settled was never bound
pub unsettled-before : (phase : Phase) (n : ℕ) → settled_in phase ≡ false → bound_before n phase ≡ false
unsettled-before Fresh n e = refl
unsettled-before Begun n e = refl
unsettled-before (InFlight attempt settled) n e = refl
unsettled-before (Bound place) n e = absurd (true≢false e)
unsettled-before Failed n e = refl

pub unsettled-now : (phase : Phase) → settled_in phase ≡ false → bound_now phase ≡ false
unsettled-now Fresh e = refl
unsettled-now Begun e = refl
unsettled-now (InFlight attempt settled) e = refl
unsettled-now (Bound place) e = absurd (true≢false e)
unsettled-now Failed e = refl

-- the state at a device, by its phase
pub flight-phase : (phases : List Phase) (h : List Settle) (n d : ℕ) → flight_of (state_of phases h n) d ≡ flight_in (phase_at phases d)
flight-phase phases h n d = elim (cases_lt d (length phases)) [
  | inl within ↦ get_or-map flight_in phases d Fresh None within
  | inr past ↦ get_or_past (map flight_in phases) d None (rw (length-map phases flight_in) past) ∙ sym (ap flight_in (get_or_past phases d Fresh past))
]

pub begun-phase : (phases : List Phase) (h : List Settle) (n d : ℕ) → was_begun (state_of phases h n) d ≡ begun_in (phase_at phases d)
begun-phase phases h n d = elim (cases_lt d (length phases)) [
  | inl within ↦ get_or-map begun_in phases d Fresh false within
  | inr past ↦ get_or_past (map begun_in phases) d false (rw (length-map phases begun_in) past) ∙ sym (ap begun_in (get_or_past phases d Fresh past))
]

-- the phases and the history call the same devices bound
pub bound-same : (plan : List PlannedDevice) (phases : List Phase) (h : List Settle) (n : ℕ) → IsSound plan phases h n → bound_by phases ≡ bound_in h
bound-same plan phases h n sound = fun_ext (λ d. sym (sound.bound d))

due-in : (phase : Phase) (matched ready : Bool) → (ready ≡ true → matched ≡ true) →
    due_in phase matched ready ≡ (matched && (not (is_some (flight_in phase) || settled_in phase) && (not (begun_in phase) || ready)))
due-in Fresh true ready h = refl
due-in Fresh false ready h = refl
due-in Begun true ready h = refl
due-in Begun false true h = absurd (true≢false (sym (h refl)))
due-in Begun false false h = refl
due-in (InFlight attempt settled) true ready h = refl
due-in (InFlight attempt settled) false ready h = refl
due-in (Bound place) true ready h = refl
due-in (Bound place) false ready h = refl
due-in Failed true ready h = refl
due-in Failed false ready h = refl

-- what is due by the phases is due
pub due-same : (plan : List PlannedDevice) (phases : List Phase) (h : List Settle) (n : ℕ) → IsSound plan phases h n → (d : ℕ) → due_by plan phases d ≡ is_due plan (state_of phases h n) d
due-same plan phases h n sound d =
    due-in (phase_at phases d) (is_matched plan d) (is_ready plan (bound_by phases) d) (ready-matched plan (bound_by phases) d)
    ∙ (λ i. is_matched plan d && (not (is_some (sym (flight-phase phases h n d) i) || sym (sound.settled d) i) && (not (sym (begun-phase phases h n d) i) || is_ready plan (bound-same plan phases h n sound i) d)))

pub idle-same : (plan : List PlannedDevice) (phases : List Phase) (h : List Settle) (n : ℕ) → IsSound plan phases h n → (d : ℕ) → not (is_some (flight_in (phase_at phases d)) || settled_in (phase_at phases d)) ≡ is_idle (state_of phases h n) d
idle-same plan phases h n sound d = λ i. not (is_some (sym (flight-phase phases h n d) i) || sym (sound.settled d) i)

-- what a phase counts among the unsettled
abbrev weight : Phase → ℕ
weight phase = cond (unsettled_in phase) 1 0

weight-unsettled : (phase : Phase) → settled_in phase ≡ false → weight phase ≡ 1
weight-unsettled phase e = ap (λ b. cond (not b) 1 0) e

weight-settled : (phase : Phase) → settled_in phase ≡ true → weight phase ≡ 0
weight-settled phase e = ap (λ b. cond (not b) 1 0) e

-- a phase more or less in the count of the unsettled
count-set : (phases : List Phase) (d : ℕ) (phase : Phase) → d < length phases →
    count_by unsettled_in (set phases d phase) + weight (phase_at phases d) ≡ count_by unsettled_in phases + weight phase
count-set phases d phase within = sum_by-set weight phases d phase Fresh within

pub at-same : (phases : List Phase) (d e : ℕ) (phase : Phase) → d < length phases → e ≡ d → phase_at (set phases d phase) e ≡ phase
at-same phases d e phase within same = ap (λ k. phase_at (set phases d phase) k) same ∙ get_or-set_same phases d phase Fresh within

pub at-other : (phases : List Phase) (d e : ℕ) (phase : Phase) → e ≢ d → phase_at (set phases d phase) e ≡ phase_at phases e
at-other phases d e phase other = get_or-set_other phases d e phase Fresh other

-- a device that isn't settled goes to another such phase
pub change-sound : (plan : List PlannedDevice) (phases : List Phase) (h : List Settle) (n m d : ℕ) (phase : Phase)
    → d < length phases → settled_in (phase_at phases d) ≡ false → settled_in phase ≡ false → m ≤ MAX_BEGINS
    → IsSound plan phases h n → IsSound plan (set phases d phase) h m
change-sound plan phases h n m d phase within old new limit sound =
    record {
      places = length-set phases d phase ∙ sound.places;
      before = λ k e. elim (cases_eq e d) [
        | inl same ↦ sound.before k e ∙ unsettled-before (phase_at phases e) k (ap (λ x. settled_in (phase_at phases x)) same ∙ old)
            ∙ sym (ap (bound_before k) (at-same phases d e phase within same) ∙ unsettled-before phase k new)
        | inr other ↦ sound.before k e ∙ sym (ap (bound_before k) (at-other phases d e phase other))
      ];
      bound = λ e. elim (cases_eq e d) [
        | inl same ↦ sound.bound e ∙ unsettled-now (phase_at phases e) (ap (λ x. settled_in (phase_at phases x)) same ∙ old)
            ∙ sym (ap bound_now (at-same phases d e phase within same) ∙ unsettled-now phase new)
        | inr other ↦ sound.bound e ∙ sym (ap bound_now (at-other phases d e phase other))
      ];
      settled = λ e. elim (cases_eq e d) [
        | inl same ↦ sound.settled e ∙ (ap (λ x. settled_in (phase_at phases x)) same ∙ old) ∙ sym (ap settled_in (at-same phases d e phase within same) ∙ new)
        | inr other ↦ sound.settled e ∙ sym (ap settled_in (at-other phases d e phase other))
      ];
      lawful = sound.lawful;
      limit = limit;
      unsettled =
          omega (arith, count-set phases d phase within, weight-unsettled (phase_at phases d) old, weight-unsettled phase new, sound.unsettled);
    }

-- what a settled phase says
settled-now : (place : ℕ) (o : Outcome) → bound_now (settled_phase place o) ≡ is_bound o
settled-now place outcome.Bound = refl
settled-now place outcome.Failed = refl

settled-settled : (place : ℕ) (o : Outcome) → settled_in (settled_phase place o) ≡ true
settled-settled place outcome.Bound = refl
settled-settled place outcome.Failed = refl

settled-late : (place n : ℕ) (o : Outcome) → n ≤ place → bound_before n (settled_phase place o) ≡ false
settled-late place n outcome.Bound late = le-ltb place n late
settled-late place n outcome.Failed late = refl

settled-early : (place n : ℕ) (o : Outcome) → place < n → bound_before n (settled_phase place o) ≡ is_bound o
settled-early place n outcome.Bound early = lt-ltb place n early
settled-early place n outcome.Failed early = refl

pub and_true : (b c : Bool) → c ≡ true → (b && c) ≡ b
and_true true c e = e
and_true false c e = refl

or_true : (b : Bool) → (b || true) ≡ true
or_true true = refl
or_true false = refl

pub and_false : (b c : Bool) → c ≡ false → (b && c) ≡ false
and_false true c e = e
and_false false c e = refl

abbrev outcome_at : List PlannedDevice → ℕ → Outcome
outcome_at plan d = outcome_by (verdict_of plan d)

-- the bound devices after a settle: the device itself, by its outcome, or those before
push-same : (plan : List PlannedDevice) (h : List Settle) (d e : ℕ) → e ≡ d → bound_in h e ≡ false → bound_in (h ++ settle_of plan d ∷ []) e ≡ is_bound (outcome_at plan d)
push-same plan h d e same none =
    bound_in-push h (settle_of plan d) e ∙ ap (λ b. b || (is_bound (outcome_at plan d) && eqb d e)) none ∙ and_true (is_bound (outcome_at plan d)) (eqb d e) (eq-eqb d e (sym same))

push-other : (plan : List PlannedDevice) (h : List Settle) (d e : ℕ) → e ≢ d → bound_in (h ++ settle_of plan d ∷ []) e ≡ bound_in h e
push-other plan h d e other =
    bound_in-push h (settle_of plan d) e ∙ ap (λ b. bound_in h e || b) (and_false (is_bound (outcome_at plan d)) (eqb d e) (ne_eqb d e (λ q. other (sym q)))) ∙ or_false (bound_in h e)

pub settle-sound : (plan : List PlannedDevice) (phases : List Phase) (h : List Settle) (n d : ℕ)
    → d < length phases → settled_in (phase_at phases d) ≡ false → is_ready plan (bound_in h) d ≡ true
    → IsSound plan phases h n → IsSound plan (set phases d (settled_phase (length h) (outcome_at plan d))) (h ++ settle_of plan d ∷ []) n
settle-sound plan phases h n d within old ready sound =
    let phase = settled_phase (length h) (outcome_at plan d)
    in let unbound : (e : ℕ) → e ≡ d → bound_in h e ≡ false =
    λ e same. sound.bound e ∙ unsettled-now (phase_at phases e) (ap (λ x. settled_in (phase_at phases x)) same ∙ old)
    in let late : (k e : ℕ) → e ≡ d → bound_before k (phase_at phases e) ≡ false =
    λ k e same. unsettled-before (phase_at phases e) k (ap (λ x. settled_in (phase_at phases x)) same ∙ old)
    in record {
      places = length-set phases d phase ∙ sound.places;
      before = λ k e. elim (cases_lt (length h) k) [
        | inl early ↦
            let whole : take k (h ++ settle_of plan d ∷ []) ≡ h ++ settle_of plan d ∷ [] = take_all k (h ++ settle_of plan d ∷ []) (rw (length_push h (settle_of plan d)) (omega arith))
            in ap (λ x. bound_in x e) whole ∙ elim (cases_eq e d) [
              | inl same ↦ push-same plan h d e same (unbound e same) ∙ sym (ap (bound_before k) (at-same phases d e phase within same) ∙ settled-early (length h) k (outcome_at plan d) early)
              | inr other ↦ push-other plan h d e other ∙ ap (λ x. bound_in x e) (sym (take_all k h (omega arith))) ∙ sound.before k e
                  ∙ sym (ap (bound_before k) (at-other phases d e phase other))
            ]
        | inr reached ↦
            ap (λ x. bound_in x e) (take-append-le k h (settle_of plan d ∷ []) reached) ∙ sound.before k e ∙ elim (cases_eq e d) [
              | inl same ↦ late k e same ∙ sym (ap (bound_before k) (at-same phases d e phase within same) ∙ settled-late (length h) k (outcome_at plan d) reached)
              | inr other ↦ sym (ap (bound_before k) (at-other phases d e phase other))
            ]
      ];
      bound = λ e. elim (cases_eq e d) [
        | inl same ↦ push-same plan h d e same (unbound e same) ∙ sym (ap bound_now (at-same phases d e phase within same) ∙ settled-now (length h) (outcome_at plan d))
        | inr other ↦ push-other plan h d e other ∙ sound.bound e ∙ sym (ap bound_now (at-other phases d e phase other))
      ];
      settled = λ e. is_settled-push h (settle_of plan d) e ∙ elim (cases_eq e d) [
        | inl same ↦ ap (λ b. is_settled h e || b) (eq-eqb d e (sym same)) ∙ or_true (is_settled h e)
            ∙ sym (ap settled_in (at-same phases d e phase within same) ∙ settled-settled (length h) (outcome_at plan d))
        | inr other ↦ ap (λ b. is_settled h e || b) (ne_eqb d e (λ q. other (sym q))) ∙ or_false (is_settled h e) ∙ sound.settled e ∙ sym (ap settled_in (at-other phases d e phase other))
      ];
      lawful = history-push plan [] h (settle_of plan d) sound.lawful (record { once = sound.settled d ∙ old; ready = ready; outcome = refl });
      limit = sound.limit;
      unsettled =
          omega (arith, count-set phases d phase within, weight-unsettled (phase_at phases d) old, weight-settled phase (settled-settled (length h) (outcome_at plan d)), sound.unsettled, length_push h (settle_of plan d));
    }

-- there is room for a device that hasn't settled
pub unsettled-room : (plan : List PlannedDevice) (phases : List Phase) (h : List Settle) (n d : ℕ) → d < length phases → settled_in (phase_at phases d) ≡ false → IsSound plan phases h n → length h < length plan
unsettled-room plan phases h n d within old sound =
    omega (arith, get_or-le-sum_by weight phases d Fresh within, weight-unsettled (phase_at phases d) old, sound.unsettled)

pub fresh-at : (n d : ℕ) → phase_at (replicate n Fresh) d ≡ Fresh
fresh-at n d = elim (cases_lt d n) [
  | inl within ↦ get_or-replicate n d Fresh Fresh within
  | inr past ↦ get_or_past (replicate n Fresh) d Fresh (rw (length-replicate n Fresh) past)
]

-- nothing begun
pub first-sound : (plan : List PlannedDevice) → IsSound plan (replicate (length plan) Fresh) [] 0
first-sound plan =
    record {
      places = length-replicate (length plan) Fresh;
      before = λ k e. ap (λ x. bound_in x e) (take_all k [] (omega arith)) ∙ sym (ap (bound_before k) (fresh-at (length plan) e));
      bound = λ e. sym (ap bound_now (fresh-at (length plan) e));
      settled = λ e. sym (ap settled_in (fresh-at (length plan) e));
      lawful = tt;
      limit = omega arith;
      unsettled = omega (arith, sum_by-replicate weight (length plan) Fresh);
    }

pub map-replicate : {X Y : Type 0} (f : X → Y) (n : ℕ) (x : X) → map f (replicate n x) ≡ replicate n (f x)
map-replicate f zero x = refl
map-replicate f (suc n) x = ap (λ xs. f x ∷ xs) (map-replicate f n x)

pub first-view : (plan : List PlannedDevice) → state_of (replicate (length plan) Fresh) [] 0 ≡ first_state plan
first-view plan = λ i. record { history = []; flights = map-replicate flight_in (length plan) Fresh i; begun = map-replicate begun_in (length plan) Fresh i; begins = 0; registered = [] }

-- the same of phases and a history that equal the first ones
pub first-sound_at : (plan : List PlannedDevice) (phases : List Phase) (h : List Settle) → phases ≡ replicate (length plan) Fresh → h ≡ [] → IsSound plan phases h 0
first-sound_at plan phases h all none = coe 1 0 (i. IsSound plan (all i) (none i) 0) (first-sound plan)

pub first-view_at : (plan : List PlannedDevice) (phases : List Phase) (h : List Settle) → phases ≡ replicate (length plan) Fresh → h ≡ [] → state_of phases h 0 ≡ first_state plan
first-view_at plan phases h all none = (λ i. state_of (all i) (none i) 0) ∙ first-view plan

pub idle-unsettled : (phase : Phase) → idle_in phase ≡ true → settled_in phase ≡ false
idle-unsettled Fresh e = refl
idle-unsettled Begun e = refl
idle-unsettled (InFlight attempt settled) e = refl
idle-unsettled (Bound place) e = sym e
idle-unsettled Failed e = sym e

pub flying-unsettled : (phase : Phase) → is_some (flight_in phase) ≡ true → settled_in phase ≡ false
flying-unsettled Fresh e = refl
flying-unsettled Begun e = refl
flying-unsettled (InFlight attempt settled) e = refl
flying-unsettled (Bound place) e = sym e
flying-unsettled Failed e = sym e

-- a begin, as the phases keep it
pub begun-sound : (plan : List PlannedDevice) (phases : List Phase) (h : List Settle) (n d e k : ℕ)
    → e ≡ d → d < length plan → idle_in (phase_at phases d) ≡ true → n < MAX_BEGINS
    → IsSound plan phases h n → IsSound plan (set phases e (InFlight (n + 1) k)) h (n + 1)
begun-sound plan phases h n d e k same within idle few sound =
    change-sound plan phases h n (n + 1) e (InFlight (n + 1) k) (omega (arith, sound.places))
    (ap (λ x. settled_in (phase_at phases x)) same ∙ idle-unsettled (phase_at phases d) idle) refl (omega arith) sound

pub begun-view : (phases : List Phase) (h : List Settle) (n d e k : ℕ) → e ≡ d → k ≡ length h → state_of (set phases e (InFlight (n + 1) k)) h (n + 1) ≡ begin_state (state_of phases h n) d
begun-view phases h n d e k same long =
    (λ i. state_of (set phases (same i) (InFlight (n + 1) (long i))) h (n + 1))
    ∙ (λ i. record {
      history = h;
      flights = map-set flight_in phases d (InFlight (n + 1) (length h)) i;
      begun = map-set begun_in phases d (InFlight (n + 1) (length h)) i;
      begins = n + 1;
      registered = [];
    })

-- a flight that ends without a settle, as the phases keep it
pub landed-sound : (plan : List PlannedDevice) (phases : List Phase) (h : List Settle) (n d e : ℕ)
    → e ≡ d → d < length plan → is_some (flight_in (phase_at phases d)) ≡ true
    → IsSound plan phases h n → IsSound plan (set phases e Begun) h n
landed-sound plan phases h n d e same within flying sound =
    change-sound plan phases h n n e Begun (omega (arith, sound.places))
    (ap (λ x. settled_in (phase_at phases x)) same ∙ flying-unsettled (phase_at phases d) flying) refl sound.limit sound

flying-begun : (phase : Phase) → is_some (flight_in phase) ≡ true → begun_in phase ≡ true
flying-begun Fresh e = absurd (true≢false (sym e))
flying-begun Begun e = refl
flying-begun (InFlight attempt settled) e = refl
flying-begun (Bound place) e = refl
flying-begun Failed e = refl

-- the begun devices, when one that is in flight goes to another phase that counts as begun
pub begun-same : (phases : List Phase) (d : ℕ) (phase : Phase) → d < length phases → is_some (flight_in (phase_at phases d)) ≡ true → begun_in phase ≡ true → map begun_in (set phases d phase) ≡ map begun_in phases
begun-same phases d phase within flying counts =
    map-set begun_in phases d phase
    ∙ ap (set (map begun_in phases) d) (counts ∙ sym (get_or-map begun_in phases d Fresh false within ∙ flying-begun (phase_at phases d) flying))
    ∙ set-get_or (map begun_in phases) d false

pub landed-view : (phases : List Phase) (h : List Settle) (n d e : ℕ) → e ≡ d → d < length phases → is_some (flight_in (phase_at phases d)) ≡ true → state_of (set phases e Begun) h n ≡ without_flight (state_of phases h n) d
landed-view phases h n d e same within flying =
    (λ i. state_of (set phases (same i) Begun) h n)
    ∙ (λ i. record {
      history = h;
      flights = map-set flight_in phases d Begun i;
      begun = begun-same phases d Begun within flying refl i;
      begins = n;
      registered = [];
    })

-- a settle, as the phases and the history keep it
pub settled-sound : (plan : List PlannedDevice) (phases : List Phase) (h : List Settle) (n d e k : ℕ) (o : Outcome) (phase : Phase) (new : List Settle)
    → e ≡ d → d < length plan → is_some (flight_in (phase_at phases d)) ≡ true → is_ready plan (bound_by phases) d ≡ true
    → o ≡ outcome_by (verdict_of plan d) → phase ≡ settled_phase k o → k ≡ length h → new ≡ h ++ record { device = d; outcome = o } ∷ []
    → IsSound plan phases h n → IsSound plan (set phases e phase) new n
settled-sound plan phases h n d e k o phase new same within flying ready by settles long added sound =
    let phase-is : phase ≡ settled_phase (length h) (outcome_at plan d) = settles ∙ ap₂ settled_phase long by
    in let new-is : new ≡ h ++ settle_of plan d ∷ [] = added ∙ (λ i. h ++ record { device = d; outcome = by i } ∷ [])
    in coe 1 0 (i. IsSound plan (set phases (same i) (phase-is i)) (new-is i) n)
    (settle-sound plan phases h n d (omega (arith, sound.places)) (flying-unsettled (phase_at phases d) flying)
    (sym (ap (λ b. is_ready plan b d) (bound-same plan phases h n sound)) ∙ ready) sound)

settled-begun : (place : ℕ) (o : Outcome) → begun_in (settled_phase place o) ≡ true
settled-begun place outcome.Bound = refl
settled-begun place outcome.Failed = refl

settled-landed : (place : ℕ) (o : Outcome) → flight_in (settled_phase place o) ≡ None
settled-landed place outcome.Bound = refl
settled-landed place outcome.Failed = refl

pub settled-view : (plan : List PlannedDevice) (phases : List Phase) (h : List Settle) (n d e k : ℕ) (o : Outcome) (phase : Phase) (new : List Settle)
    → e ≡ d → d < length phases → is_some (flight_in (phase_at phases d)) ≡ true
    → o ≡ outcome_by (verdict_of plan d) → phase ≡ settled_phase k o → new ≡ h ++ record { device = d; outcome = o } ∷ []
    → state_of (set phases e phase) new n ≡ finish_state plan (state_of phases h n) d Settled
settled-view plan phases h n d e k o phase new same within flying by settles added =
    (λ i. state_of (set phases (same i) (settles i)) ((added ∙ (λ j. h ++ record { device = d; outcome = by j } ∷ [])) i) n)
    ∙ (λ i. record {
      history = h ++ settle_of plan d ∷ [];
      flights = (map-set flight_in phases d (settled_phase k o) ∙ ap (set (map flight_in phases) d) (settled-landed k o)) i;
      begun = begun-same phases d (settled_phase k o) within flying (settled-begun k o) i;
      begins = n;
      registered = [];
    })

-- the device in flight, from what a caller knows of the state
pub flying-phase : (phases : List Phase) (h : List Settle) (n d : ℕ) → is_in_flight (state_of phases h n) d ≡ true → is_some (flight_in (phase_at phases d)) ≡ true
flying-phase phases h n d flying = sym (ap is_some (flight-phase phases h n d)) ∙ flying
