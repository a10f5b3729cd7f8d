-- Why a device has at most two begins more than abandons.
use Rattle.std.proofs.Common.{◌≡◌, inl, inr, ℕ, ◌+◌, ◌<◌, Bool, true, false, not, ◌&&◌, ◌||◌, List, [], ◌∷◌, ◌++◌, Option, Some, None, length, eqb, cond, take, refl, sym, ap, ◌∙◌, true≢false, eq-eqb, ne_eqb, arith, take_all}
use Rattle.std.specs.Prelude.{is_some}
use Rattle.std.specs.List.{list_any, list_all}
use Rattle.std.proofs.lemmas.Bool.{and_parts, and_from, or_cases, or_parts, or_from, or_left, or_right, cases_lt, cases_eq, not-true, false_from_ne_true}
use Rattle.std.proofs.lemmas.List.{get_or-set_same, get_or-set_other, take-append-le, length_push}
use Rattle.bus_plan.specs.LateDriver.{with_driver}
use Rattle.bus_plan.specs.Plan.{PlannedDevice, is_matched, suppliers_of}
use Rattle.bus_core.specs.declared.event.Event.{Event}
use Rattle.bus_core.specs.declared.event.Event.TheVariants.{Begin, Finish, Abandon, Register}
use Rattle.bus_core.specs.declared.event.Report.TheVariants.{Settled, Missing}
use Rattle.bus_core.specs.declared.settle.Settle.{Settle}
use Rattle.bus_core.specs.CoreState.{CoreState, Flight, flight_of, is_in_flight, was_begun}
use Rattle.bus_core.specs.Due.{is_due, is_idle}
use Rattle.bus_core.specs.History.{bound_in, is_settled}
use Rattle.bus_core.specs.Ready.{is_ready}
use Rattle.bus_core.specs.Step.{begin_state, without_flight, registered_state, finish_state, report_refusal, is_supplier, bound_at_begin, settled_at_begin, settle_of}
use Rattle.bus_core.proofs.LateLemmas.{late-ready}
use Rattle.bus_core.proofs.HistoryLemmas.{ready-weaker, bound-stays, is_settled-push}
use Rattle.bus_manager.specs.Events.{is_begin_of, is_abandon_of}
use Rattle.bus_manager.specs.Private.KeeperView.{is_late, IsBounded}
use Rattle.bus_manager.proofs.Begins.{count-push, no-count, one-count}

-- an event that is no begin of the device, after which it is late if it was before
kept-bounded : (plan new : List PlannedDevice) (s t : CoreState) (events : List Event) (x : Event) (d : ℕ)
    → (is_late new t d ≡ false → is_late plan s d ≡ false) → was_begun t d ≡ was_begun s d → is_begin_of d x ≡ false
    → IsBounded plan s events d → IsBounded new t (events ++ x ∷ []) d
kept-bounded plan new s t events x d late begun other bounded =
    let b = count-push (is_begin_of d) events x
    in let none = no-count (is_begin_of d x) other
    in let a = count-push (is_abandon_of d) events x
    in record {
      top = let h = bounded.top in omega arith;
      low = λ e. let h = bounded.low (late e) in omega arith;
      fresh = λ e. let h = bounded.fresh (sym begun ∙ e) in omega arith;
    }

-- what says whether a device is late: the history and its flight
abbrev late_by : List PlannedDevice → List Settle → Option Flight → ℕ → Bool
late_by plan h flight d = is_settled h d || (is_some flight && is_ready plan (bound_in (take (settled_at_begin flight) h)) d)

pub or-false : (a b : Bool) → b ≡ false → (a || b) ≡ a
or-false true b e = refl
or-false false b e = e

pub and-false : (a : Bool) → (a && false) ≡ false
and-false true = refl
and-false false = refl

-- a due device is begun
pub begin-bounded : (plan : List PlannedDevice) (s : CoreState) (events : List Event) (d e : ℕ)
    → d < length s.flights → d < length s.begun → is_due plan s d ≡ true → IsBounded plan s events e → IsBounded plan (begin_state s d) (events ++ Begin d ∷ []) e
begin-bounded plan s events d e within within' due bounded = elim (cases_eq d e) [
  | inr other ↦
      kept-bounded plan plan s (begin_state s d) events (Begin d) e
      (λ late. sym (ap (λ f. late_by plan s.history f e) (get_or-set_other s.flights d e (Some (record { attempt = s.begins + 1; settled = length s.history })) None (λ q. other (sym q)))) ∙ late)
      (get_or-set_other s.begun d e true false (λ q. other (sym q))) (ne_eqb d e other) bounded
  | inl same ↦
      let test = (and_parts (is_matched plan d) (is_idle s d && (not (was_begun s d) || is_ready plan (bound_in s.history) d)) due).1
      in let tests = and_parts (is_idle s d) (not (was_begun s d) || is_ready plan (bound_in s.history) d) test
      in let idle = or_parts (is_in_flight s d) (is_settled s.history d) (not-true (is_in_flight s d || is_settled s.history d) tests.0)
      in let early : is_late plan s e ≡ false = ap (is_late plan s) (sym same) ∙ or_from (is_settled s.history d) (is_in_flight s d && is_ready plan (bound_at_begin s d) d) idle.1 (ap (λ b. b && is_ready plan (bound_at_begin s d) d) idle.0)
      in let b = count-push (is_begin_of e) events (Begin d)
      in let one = one-count (is_begin_of e (Begin d)) (eq-eqb d e same)
      in let a = count-push (is_abandon_of e) events (Begin d)
      in let low = bounded.low early
      in let flight : flight_of (begin_state s d) d ≡ Some (record { attempt = s.begins + 1; settled = length s.history })
      = get_or-set_same s.flights d (Some (record { attempt = s.begins + 1; settled = length s.history })) None within
      in let ready-late : is_ready plan (bound_in s.history) d ≡ true → is_late plan (begin_state s d) d ≡ true
      = λ ready. ap (λ f. late_by plan s.history f d) flight
      ∙ ap (λ h. is_settled s.history d || is_ready plan (bound_in h) d) (take_all (length s.history) s.history (omega arith))
      ∙ or_right (is_settled s.history d) (is_ready plan (bound_in s.history) d) ready
      in record {
        top = omega arith;
        low = λ late. elim (or_cases (not (was_begun s d)) (is_ready plan (bound_in s.history) d) tests.1) [
          | inl fresh ↦ let none = bounded.fresh (ap (was_begun s) (sym same) ∙ not-true (was_begun s d) fresh) in omega arith
          | inr ready ↦ absurd (true≢false (sym (ready-late ready) ∙ (ap (is_late plan (begin_state s d)) same ∙ late)))
        ];
        fresh = λ never. absurd (true≢false (sym (get_or-set_same s.begun d true false within') ∙ (ap (was_begun (begin_state s d)) same ∙ never)));
      }
]

-- a flight is dropped
pub abandon-bounded : (plan : List PlannedDevice) (s : CoreState) (events : List Event) (d e : ℕ) → IsBounded plan s events e → IsBounded plan (without_flight s d) (events ++ Abandon d ∷ []) e
abandon-bounded plan s events d e bounded = elim (cases_eq d e) [
  | inr other ↦
      kept-bounded plan plan s (without_flight s d) events (Abandon d) e
      (λ late. sym (ap (λ f. late_by plan s.history f e) (get_or-set_other s.flights d e None None (λ q. other (sym q)))) ∙ late) refl refl bounded
  | inl same ↦
      let b = count-push (is_begin_of e) events (Abandon d)
      in let a = count-push (is_abandon_of e) events (Abandon d)
      in let one = one-count (is_abandon_of e (Abandon d)) (eq-eqb d e same)
      in let top = bounded.top
      in record {
        top = omega arith;
        low = λ late. omega arith;
        fresh = λ never. let none = bounded.fresh never in omega arith;
      }
]

-- a supplier that fails the test
supplier-fails : (p : ℕ → Bool) (xs : List ℕ) (x : ℕ) → list_any (λ s. eqb s x) xs ≡ true → list_all p xs ≡ true → p x ≡ true
supplier-fails p [] x has all = absurd (true≢false (sym has))
supplier-fails p (y ∷ xs) x has all =
    let parts = and_parts (p y) (list_all p xs) all
    in elim (cases_eq y x) [
      | inl same ↦ ap p (sym same) ∙ parts.0
      | inr other ↦ supplier-fails p xs x (ap (λ b. b || list_any (λ s. eqb s x) xs) (sym (ne_eqb y x other)) ∙ has) parts.1
    ]

pub cond-none : {X : Type 0} (test : Bool) (x : X) (rest : Option X) → cond (not test) (Some x) rest ≡ None → (test ≡ true) × (rest ≡ None)
cond-none true x rest e = (refl, e)
cond-none false x rest e = let no : ⊥ = cc in absurd no

cond-none' : {X : Type 0} (test : Bool) (x : X) (rest : Option X) → cond test (Some x) rest ≡ None → (test ≡ false) × (rest ≡ None)
cond-none' false x rest e = (refl, e)
cond-none' true x rest e = let no : ⊥ = cc in absurd no

-- a supplier was missing at the begin
pub missing-bounded : (plan : List PlannedDevice) (s : CoreState) (events : List Event) (d supplier e : ℕ)
    → report_refusal plan s d (Missing supplier) ≡ None → IsBounded plan s events e → IsBounded plan (without_flight s d) (events ++ Finish d (Missing supplier) ∷ []) e
missing-bounded plan s events d supplier e allowed bounded =
    let first = cond-none (is_supplier plan d supplier) _ _ allowed
    in let second = cond-none' (bound_at_begin s d supplier) _ _ first.1
    in let unready : is_ready plan (bound_at_begin s d) d ≡ false = false_from_ne_true (is_ready plan (bound_at_begin s d) d)
    (λ ready. true≢false (sym (supplier-fails (bound_at_begin s d) (suppliers_of plan d) supplier first.0 (and_parts (is_matched plan d) (list_all (bound_at_begin s d) (suppliers_of plan d)) ready).1) ∙ second.0))
    in kept-bounded plan plan s (without_flight s d) events (Finish d (Missing supplier)) e
    (λ late. elim (cases_eq d e) [
      | inr other ↦ sym (ap (λ f. late_by plan s.history f e) (get_or-set_other s.flights d e None None (λ q. other (sym q)))) ∙ late
      | inl same ↦
          let settled : is_settled s.history e ≡ false = (or_parts (is_settled s.history e) (is_in_flight (without_flight s d) e && is_ready plan (bound_at_begin (without_flight s d) e) e) late).0
          in or_from (is_settled s.history e) (is_in_flight s e && is_ready plan (bound_at_begin s e) e) settled
          (ap (λ k. is_in_flight s k && is_ready plan (bound_at_begin s k) k) (sym same) ∙ ap (λ b. is_in_flight s d && b) unready ∙ and-false (is_in_flight s d))
    ]) refl refl bounded

-- the devices bound among the first of a history stay so
front-stays : (n : ℕ) (h : List Settle) (x : Settle) (d : ℕ) → bound_in (take n h) d ≡ true → bound_in (take n (h ++ x ∷ [])) d ≡ true
front-stays n h x d held = elim (cases_lt (length h) n) [
  | inl past ↦ ap (λ y. bound_in y d) (take_all n (h ++ x ∷ []) (rw (length_push h x) (omega arith)))
      ∙ bound-stays h x d (ap (λ y. bound_in y d) (sym (take_all n h (omega arith))) ∙ held)
  | inr inside ↦ ap (λ y. bound_in y d) (take-append-le n h (x ∷ []) inside) ∙ held
]

-- a device settles
pub settled-bounded : (plan : List PlannedDevice) (s : CoreState) (events : List Event) (d e : ℕ)
    → IsBounded plan s events e → IsBounded plan (finish_state plan s d Settled) (events ++ Finish d Settled ∷ []) e
settled-bounded plan s events d e bounded =
    let t = finish_state plan s d Settled
    in let stays : is_settled s.history e ≡ true → is_settled t.history e ≡ true
    = λ h. is_settled-push s.history (settle_of plan d) e ∙ or_left (is_settled s.history e) (eqb d e) h
    in kept-bounded plan plan s t events (Finish d Settled) e
    (λ late. false_from_ne_true (is_late plan s e) (λ before.
    let none = or_parts (is_settled t.history e) (is_in_flight t e && is_ready plan (bound_at_begin t e) e) late
    in elim (cases_eq d e) [
      | inl same ↦ true≢false (sym (is_settled-push s.history (settle_of plan d) e ∙ or_right (is_settled s.history e) (eqb d e) (eq-eqb d e same)) ∙ none.0)
      | inr other ↦ elim (or_cases (is_settled s.history e) (is_in_flight s e && is_ready plan (bound_at_begin s e) e) before) [
        | inl settled ↦ true≢false (sym (stays settled) ∙ none.0)
        | inr flying ↦
            let parts = and_parts (is_in_flight s e) (is_ready plan (bound_at_begin s e) e) flying
            in let same-flight : flight_of t e ≡ flight_of s e = get_or-set_other s.flights d e None None (λ q. other (sym q))
            in let ready : is_ready plan (bound_in (take (settled_at_begin (flight_of s e)) t.history)) e ≡ true
            = ready-weaker plan (bound_at_begin s e) (bound_in (take (settled_at_begin (flight_of s e)) t.history)) (λ x. front-stays (settled_at_begin (flight_of s e)) s.history (settle_of plan d) x) e parts.1
            in let now : (is_in_flight t e && is_ready plan (bound_at_begin t e) e) ≡ true
            = ap (λ f. is_some f && is_ready plan (bound_in (take (settled_at_begin f) t.history)) e) same-flight
            ∙ and_from (is_in_flight s e) (is_ready plan (bound_in (take (settled_at_begin (flight_of s e)) t.history)) e) parts.0 ready
            in true≢false (sym now ∙ none.1)
      ]
    ])) refl refl bounded

-- a driver comes late: a flight that began with its device ready is still one
pub registered-bounded : (plan : List PlannedDevice) (s : CoreState) (events : List Event) (name : List ℕ) (strings : List (List ℕ)) (e : ℕ)
    → IsBounded plan s events e → IsBounded (with_driver plan name strings) (registered_state s name) (events ++ Register name strings ∷ []) e
registered-bounded plan s events name strings e bounded =
    let new = with_driver plan name strings
    in kept-bounded plan new s (registered_state s name) events (Register name strings) e
    (λ late. false_from_ne_true (is_late plan s e) (λ before.
    let none = or_parts (is_settled s.history e) (is_in_flight s e && is_ready new (bound_at_begin s e) e) late
    in elim (or_cases (is_settled s.history e) (is_in_flight s e && is_ready plan (bound_at_begin s e) e) before) [
      | inl settled ↦ true≢false (sym settled ∙ none.0)
      | inr flying ↦
          let parts = and_parts (is_in_flight s e) (is_ready plan (bound_at_begin s e) e) flying
          in true≢false (sym (and_from (is_in_flight s e) (is_ready new (bound_at_begin s e) e) parts.0 (late-ready plan name strings (bound_at_begin s e) e parts.1)) ∙ none.1)
    ])) refl refl bounded
