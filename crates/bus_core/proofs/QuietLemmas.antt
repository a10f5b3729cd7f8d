-- What is due and what is quiet.
use Rattle.std.proofs.Common.{◌≡◌, inl, inr, ℕ, zero, suc, ◌+◌, ◌<◌, ◌≤◌, Bool, true, false, not, ◌||◌, cond, List, [], ◌∷◌, Option, Some, None, length, get_or, eqb, refl, sym, ap, ◌∙◌, true≢false, arith, eq-eqb, eqb-true}
use Rattle.std.specs.Prelude.{is_some, IfSome, IfNone, IsTrue, count_by}
use Rattle.std.specs.List.{list_all, range_with_len}
use Rattle.std.proofs.lemmas.Bool.{and_parts, and_from, or_from, cases_Bool, not_from_false, false_from_ne_true}
use Rattle.std.proofs.lemmas.List.Sums.{sum_by-cons, get_or-le-sum_by}
use Rattle.bus_plan.specs.Plan.{PlannedDevice, is_matched}
use Rattle.bus_core.specs.CoreState.{CoreState, CoreValue, Flight, is_in_flight}
use Rattle.bus_core.specs.Due.{is_due, is_quiet}
use Rattle.bus_core.specs.History.{IsBusHistory, bound_in}
use Rattle.bus_core.specs.Least.{IsLeast}
use Rattle.bus_core.proofs.HistoryLemmas.{matched-below}
use Rattle.bus_core.proofs.LeastLemmas.{quiet-at, quiet-least}

abbrev zero_or_one : Bool → ℕ
zero_or_one b = cond b 1 0

pub some-weaker : {X : Type 0} (P Q : X → Type 0) → ((x : X) → P x → Q x) → (o : Option X) → IfSome o P → IfSome o Q
some-weaker P Q weaker None held = tt
some-weaker P Q weaker (Some x) held = weaker x held

pub none-weaker : {X : Type 0} (P Q : Type 0) → (P → Q) → (o : Option X) → IfNone o P → IfNone o Q
none-weaker P Q weaker None held = weaker held
none-weaker P Q weaker (Some x) held = tt

-- a due device is in the plan
pub due-within : (plan : List PlannedDevice) (s : CoreState) (d : ℕ) → is_due plan s d ≡ true → d < length plan
due-within plan s d due = matched-below plan d (and_parts (is_matched plan d) _ due).0

same_bool : (a b : Bool) → (a ≡ true → b ≡ true) → (b ≡ true → a ≡ true) → a ≡ b
same_bool true b to from = sym (to refl)
same_bool false true to from = from refl
same_bool false false to from = refl

list_all_range : (p : ℕ → Bool) (n a : ℕ) → ((d : ℕ) → a ≤ d → d < a + n → p d ≡ true) → list_all p (range_with_len a n) ≡ true
list_all_range p zero a passes = refl
list_all_range p (suc n) a passes =
    and_from (p a) (list_all p (range_with_len (a + 1) n)) (passes a (omega arith) (omega arith))
    (list_all_range p n (a + 1) (λ d above below. passes d (omega arith) (omega arith)))

-- something is due, so it isn't quiet
pub due-busy : (plan : List PlannedDevice) (s : CoreState) (d : ℕ) → is_due plan s d ≡ true → false ≡ is_quiet plan s
due-busy plan s d due =
    let within : d < length plan = due-within plan s d due
    in sym (false_from_ne_true (is_quiet plan s) (λ quiet. true≢false (sym due ∙ (quiet-at plan s quiet d within).1)))

abbrev flight_weight : Option Flight → ℕ
flight_weight flight = cond (is_some flight) 1 0

none-flying : (flights : List (Option Flight)) → ((d : ℕ) → d < length flights → is_some (get_or flights d None) ≡ false) → count_by is_some flights ≡ 0
none-flying [] landed = refl
none-flying (x ∷ flights) landed =
    let first : flight_weight x ≡ 0 = ap (λ b. zero_or_one b) (landed 0 (omega arith))
    in omega (arith, sum_by-cons flight_weight x flights, first, none-flying flights (λ d below. landed (suc d) (omega arith)))

landed-at : (flights : List (Option Flight)) (d : ℕ) → d < length flights → count_by is_some flights ≡ 0 → is_some (get_or flights d None) ≡ false
landed-at flights d within none = elim (cases_Bool (is_some (get_or flights d None))) [
  | inl flying ↦ absurd (omega (arith, get_or-le-sum_by flight_weight flights d None within, ap (λ b. zero_or_one b) flying, none))
  | inr landed ↦ landed
]

-- nothing is due, so quiet is that no flight is open
pub landed-quiet : (plan : List PlannedDevice) (s : CoreState) (n : ℕ) → length s.flights ≡ length plan → n ≡ count_by is_some s.flights
    → ((d : ℕ) → is_due plan s d ≡ false) → eqb n 0 ≡ is_quiet plan s
landed-quiet plan s n long counted undue =
    same_bool (eqb n 0) (is_quiet plan s)
    (λ none. list_all_range (λ d. not (is_in_flight s d || is_due plan s d)) (length plan) 0
    (λ d above below.
    not_from_false (is_in_flight s d || is_due plan s d)
    (or_from (is_in_flight s d) (is_due plan s d) (landed-at s.flights d (omega (arith, long)) (sym counted ∙ eqb-true n 0 none)) (undue d))))
    (λ quiet. eq-eqb n 0 (counted ∙ none-flying s.flights (λ d below. (quiet-at plan s quiet d (omega (arith, long))).0)))

pub quiet-then_least : (v : CoreValue) (b : Bool) → IsBusHistory v.plan v.state.history → b ≡ is_quiet v.plan v.state → IsTrue b → IsLeast v.plan (bound_in v.state.history)
quiet-then_least v b steps e held = quiet-least v.plan v.state steps (sym e ∙ held)
