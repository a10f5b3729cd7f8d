-- Histories that grow, and what they say of a device.
use Rattle.std.proofs.Common.{◌≡◌, ◌≢◌, ℕ, zero, suc, ◌<◌, ◌≤◌, Bool, true, false, ◌&&◌, ◌||◌, List, [], ◌∷◌, ◌++◌, length, take, Option, Some, None, refl, sym, ap, ◌∙◌, subst, ⊎_elim, arith, append_assoc, eq-eqb, ne_eqb, eqb, true≢false}
use Rattle.std.specs.Prelude.{slice_get, if◌then◌else◌}
use Rattle.std.specs.List.{list_all}
use Rattle.std.proofs.lemmas.Bool.{and_parts, and_from, or_left, or_right, cases_Bool}
use Rattle.std.proofs.lemmas.Option.{get_or_from_slice_get, slice_get_within}
use mathlib.Core.Logic.{dite}
use native.Mathlib.Decide.{ℕ_discrete}
use Rattle.bus_plan.specs.Plan.{IsLawful, PlannedDevice, is_matched, suppliers_of}
use Rattle.bus_core.proofs.HistoryLemmas.{along, bound-push_cases, history-push}
use Rattle.bus_core.specs.History.{IsBusHistory, IsBusStep, IsHistoryAfter, bound_in, is_bound, is_settled}
use Rattle.bus_core.specs.Ready.{is_ready}
use Rattle.bus_core.specs.declared.settle.Outcome.{Outcome}
use Rattle.bus_core.specs.declared.settle.Outcome.TheVariants.{Bound, Failed}
use Rattle.bus_core.specs.declared.settle.Settle.{Settle}
use Rattle.bus_board.specs.Lists.{Has}
use Rattle.bus_board.specs.Outcomes.{AllBound, History, IsFront, outcome_of}

pub append-nil : (h : History) → h ++ [] ≡ h
append-nil [] = refl
append-nil (x ∷ h) = ap (λ (l : History). x ∷ l) (append-nil h)

pub outcome_cons-same : (x : Settle) (h : History) (d : ℕ) → x.device ≡ d → outcome_of (x ∷ h) d ≡ Some x.outcome
outcome_cons-same x h d e = ap (λ (b : Bool). if b then Some x.outcome else outcome_of h d) (eq-eqb x.device d e)

pub outcome_cons-other : (x : Settle) (h : History) (d : ℕ) → x.device ≢ d → outcome_of (x ∷ h) d ≡ outcome_of h d
outcome_cons-other x h d n = ap (λ (b : Bool). if b then Some x.outcome else outcome_of h d) (ne_eqb x.device d n)

-- what is settled stays
pub outcome_kept : (h more : History) (d : ℕ) (o : Outcome) → outcome_of h d ≡ Some o → outcome_of (h ++ more) d ≡ Some o
outcome_kept [] more d o e = absurd (cc)
outcome_kept (x ∷ h) more d o e =
    dite (ℕ_discrete x.device d)
    (λ same. outcome_cons-same x (h ++ more) d same ∙ sym (outcome_cons-same x h d same) ∙ e)
    (λ other. outcome_cons-other x (h ++ more) d other ∙ outcome_kept h more d o (sym (outcome_cons-other x h d other) ∙ e))

pub outcome_push-other : (h : History) (x : Settle) (d : ℕ) → x.device ≢ d → outcome_of (h ++ x ∷ []) d ≡ outcome_of h d
outcome_push-other [] x d n = outcome_cons-other x [] d n
outcome_push-other (y ∷ h) x d n =
    dite (ℕ_discrete y.device d)
    (λ same. outcome_cons-same y (h ++ x ∷ []) d same ∙ sym (outcome_cons-same y h d same))
    (λ other. outcome_cons-other y (h ++ x ∷ []) d other ∙ outcome_push-other h x d n ∙ sym (outcome_cons-other y h d other))

pub outcome_push-new : (h : History) (x : Settle) → outcome_of h x.device ≡ None → outcome_of (h ++ x ∷ []) x.device ≡ Some x.outcome
outcome_push-new [] x e = outcome_cons-same x [] x.device refl
outcome_push-new (y ∷ h) x e =
    dite (ℕ_discrete y.device x.device)
    (λ (same : y.device ≡ x.device). let is : Some y.outcome ≡ None = sym (outcome_cons-same y h x.device same) ∙ e in absurd (cc))
    (λ other. outcome_cons-other y (h ++ x ∷ []) x.device other ∙ outcome_push-new h x (sym (outcome_cons-other y h x.device other) ∙ e))

pub history_push : (p : List PlannedDevice) (h : History) (x : Settle) → IsBusHistory p h → IsBusStep p h x → IsBusHistory p (h ++ x ∷ [])
history_push p h x l f = history-push p [] h x l f

pub front_whole : (h : History) → IsFront h h
front_whole h = ([], sym (append-nil h))

pub front_trans : (f g h : History) → IsFront f g → IsFront g h → IsFront f h
front_trans f g h a b = (a.0 ++ b.0, b.1 ∙ ap (λ (l : History). l ++ b.0) a.1 ∙ append_assoc f a.0 b.0)

pub front_push : (f h more : History) → IsFront f h → IsFront f (h ++ more)
front_push f h more t = (t.0 ++ more, ap (λ (l : History). l ++ more) t.1 ∙ append_assoc f t.0 more)

pub front_outcome : (f h : History) (d : ℕ) (o : Outcome) → IsFront f h → outcome_of f d ≡ Some o → outcome_of h d ≡ Some o
front_outcome f h d o t e = subst (λ (l : History). outcome_of l d ≡ Some o) (sym t.1) (outcome_kept f t.0 d o e)

pub none_in_front : (f h : History) (d : ℕ) → IsFront f h → outcome_of h d ≡ None → outcome_of f d ≡ None
none_in_front f h d t e = at (outcome_of f d) refl
  where
    at : (o : Option Outcome) → outcome_of f d ≡ o → outcome_of f d ≡ None
    at None is = is
    at (Some o) is = let there : outcome_of h d ≡ Some o = front_outcome f h d o t is in absurd (cc)

pub take_front : (n : ℕ) (h more : History) → n ≤ length h → take n (h ++ more) ≡ take n h
take_front zero h more le = refl
take_front (suc n) [] more le = absurd (omega arith)
take_front (suc n) (x ∷ h) more le = ap (λ (l : History). x ∷ l) (take_front n h more (omega arith))

pub take_whole : (h : History) → take (length h) h ≡ h
take_whole [] = refl
take_whole (x ∷ h) = ap (λ (l : History). x ∷ l) (take_whole h)

-- what is bound in a beginning is bound in the whole
pub take_outcome : (n : ℕ) (h : History) (d : ℕ) (o : Outcome) → outcome_of (take n h) d ≡ Some o → outcome_of h d ≡ Some o
take_outcome zero h d o e = absurd (cc)
take_outcome (suc n) [] d o e = e
take_outcome (suc n) (x ∷ h) d o e =
    dite (ℕ_discrete x.device d)
    (λ same. outcome_cons-same x h d same ∙ sym (outcome_cons-same x (take n h) d same) ∙ e)
    (λ other. outcome_cons-other x h d other ∙ take_outcome n h d o (sym (outcome_cons-other x (take n h) d other) ∙ e))

-- a beginning of what follows a history follows it
pub lawful_take : (p : List PlannedDevice) (n : ℕ) (before h : History) → IsHistoryAfter p before h → IsHistoryAfter p before (take n h)
lawful_take p zero before h l = tt
lawful_take p (suc n) before [] l = tt
lawful_take p (suc n) before (x ∷ h) l = (l.0, lawful_take p n (before ++ x ∷ []) h l.1)

pub lawful_front : (p : List PlannedDevice) (before f g : History) → IsHistoryAfter p before (f ++ g) → IsHistoryAfter p before f
lawful_front p before [] g t = tt
lawful_front p before (y ∷ f) g t = (t.0, lawful_front p (before ++ y ∷ []) f g t.1)

-- a device that never settled has no outcome, and the other way round
pub unsettled_none : (h : History) (d : ℕ) → is_settled h d ≡ false → outcome_of h d ≡ None
unsettled_none [] d e = refl
unsettled_none (x ∷ h) d e = at (unsettled_none h d) (eqb x.device d) refl
  where
    at : (is_settled h d ≡ false → outcome_of h d ≡ None) → (b : Bool) → eqb x.device d ≡ b → outcome_of (x ∷ h) d ≡ None
    at later true is = absurd (true≢false (sym (ap (λ (c : Bool). c || is_settled h d) is) ∙ e))
    at later false is = ap (λ (c : Bool). if c then Some x.outcome else outcome_of h d) is ∙ later (sym (ap (λ (c : Bool). c || is_settled h d) is) ∙ e)

pub none_unsettled : (h : History) (d : ℕ) → outcome_of h d ≡ None → is_settled h d ≡ false
none_unsettled [] d e = refl
none_unsettled (x ∷ h) d e = at (none_unsettled h d) (eqb x.device d) refl
  where
    at : (outcome_of h d ≡ None → is_settled h d ≡ false) → (b : Bool) → eqb x.device d ≡ b → is_settled (x ∷ h) d ≡ false
    at later true is = let there : Some x.outcome ≡ None = sym (ap (λ (c : Bool). if c then Some x.outcome else outcome_of h d) is) ∙ e in absurd (cc)
    at later false is = ap (λ (c : Bool). c || is_settled h d) is ∙ later (sym (ap (λ (c : Bool). if c then Some x.outcome else outcome_of h d) is) ∙ e)

-- a device whose outcome is Bound is among the bound ones
pub outcome_bound : (h : History) (d : ℕ) → outcome_of h d ≡ Some Bound → bound_in h d ≡ true
outcome_bound [] d e = absurd (cc)
outcome_bound (x ∷ h) d e = at (outcome_bound h d) (eqb x.device d) refl
  where
    at : (outcome_of h d ≡ Some Bound → bound_in h d ≡ true) → (b : Bool) → eqb x.device d ≡ b → bound_in (x ∷ h) d ≡ true
    at later true is =
        let now : Some x.outcome ≡ Some Bound = sym (ap (λ (c : Bool). if c then Some x.outcome else outcome_of h d) is) ∙ e in
        let same : x.outcome ≡ Bound = cc in
        or_left (is_bound x.outcome && eqb x.device d) (bound_in h d) (and_from (is_bound x.outcome) (eqb x.device d) (ap is_bound same) is)
    at later false is = or_right (is_bound x.outcome && eqb x.device d) (bound_in h d) (later (sym (ap (λ (c : Bool). if c then Some x.outcome else outcome_of h d) is) ∙ e))

is_bound-outcome : (o : Outcome) → is_bound o ≡ true → o ≡ Bound
is_bound-outcome Bound e = refl
is_bound-outcome Failed e = absurd (true≢false (sym e))

-- and in a history of the bus the other way round
pub bound_outcome : (p : List PlannedDevice) (h : History) → IsBusHistory p h → (d : ℕ) → bound_in h d ≡ true → outcome_of h d ≡ Some Bound
bound_outcome p h lawful = along p (λ (l : History). (d : ℕ) → bound_in l d ≡ true → outcome_of l d ≡ Some Bound)
    (λ before s held follows d bound. ⊎_elim
    (λ (earlier : bound_in before d ≡ true). outcome_kept before (s ∷ []) d Bound (held d earlier))
    (λ (now : (is_bound s.outcome ≡ true) × (s.device ≡ d)).
    let there : outcome_of (before ++ s ∷ []) s.device ≡ Some s.outcome = outcome_push-new before s (unsettled_none before s.device follows.once) in
    subst (λ (e : ℕ). outcome_of (before ++ s ∷ []) e ≡ Some Bound) now.1 (there ∙ ap (λ (o : Outcome). Some o) (is_bound-outcome s.outcome now.0)))
    (bound-push_cases before s d bound))
    [] h (λ d bound. absurd (true≢false (sym bound))) lawful

-- not bound, by the one or by the other
pub unbound : (p : List PlannedDevice) (h : History) → IsBusHistory p h → (d : ℕ) → outcome_of h d ≢ Some Bound → bound_in h d ≡ false
unbound p h lawful d not-bound = ⊎_elim (λ (e : bound_in h d ≡ true). absurd (not-bound (bound_outcome p h lawful d e))) (λ (e : bound_in h d ≡ false). e) (cases_Bool (bound_in h d))

-- a test that each device of a list passes
pub has_all : (test : ℕ → Bool) (xs : List ℕ) → list_all test xs ≡ true → (d : ℕ) → Has xs d → test d ≡ true
has_all test [] e d there = let none-there : (let o : Option ℕ = None in o ≡ Some d) = there.1 in absurd (cc)
has_all test (x ∷ xs) e d there = at (λ i is. has_all test xs (and_parts (test x) (list_all test xs) e).1 d (i, is)) there.0 there.1
  where
    at : ((i : ℕ) → slice_get xs i ≡ Some d → test d ≡ true) → (i : ℕ) → slice_get (x ∷ xs) i ≡ Some d → test d ≡ true
    at later zero is = let same : x ≡ d = cc in subst (λ (y : ℕ). test y ≡ true) same (and_parts (test x) (list_all test xs) e).0
    at later (suc i) is = later i is

pub all_has : (test : ℕ → Bool) (xs : List ℕ) → ((d : ℕ) → Has xs d → test d ≡ true) → list_all test xs ≡ true
all_has test [] each = refl
all_has test (x ∷ xs) each = and_from (test x) (list_all test xs) (each x (0, refl)) (all_has test xs (λ d there. each d (suc there.0, there.1)))

-- a device is ready where it is matched and each supplier's outcome is Bound
pub ready_as : (p : List PlannedDevice) (h : History) (d : ℕ) → is_matched p d ≡ true → AllBound p h d → is_ready p (bound_in h) d ≡ true
ready_as p h d matched all = and_from (is_matched p d) (list_all (bound_in h) (suppliers_of p d)) matched (all_has (bound_in h) (suppliers_of p d) (λ s there. outcome_bound h s (all s there)))

pub ready_bound : (p : List PlannedDevice) (h : History) (d : ℕ) → IsBusHistory p h → is_ready p (bound_in h) d ≡ true → AllBound p h d
ready_bound p h d lawful ready s there =
    bound_outcome p h lawful s (has_all (bound_in h) (suppliers_of p d) (and_parts (is_matched p d) (list_all (bound_in h) (suppliers_of p d)) ready).1 s there)

-- what was ready stays so
pub ready_later : (p : List PlannedDevice) (h more : History) (d : ℕ) → IsBusHistory p h → is_ready p (bound_in h) d ≡ true → is_ready p (bound_in (h ++ more)) d ≡ true
ready_later p h more d lawful ready =
    ready_as p (h ++ more) d (and_parts (is_matched p d) (list_all (bound_in h) (suppliers_of p d)) ready).0 (λ s there. outcome_kept h more s Bound (ready_bound p h d lawful ready s there))

-- each supplier is a device of the plan
pub supplier_within : (p : List PlannedDevice) → IsLawful p → (d s : ℕ) → Has (suppliers_of p d) s → s < length p
supplier_within p lawful d s there =
    subst (λ (x : ℕ). x < length p) (get_or_from_slice_get (suppliers_of p d) there.0 s 0 there.1)
    (lawful.suppliers d there.0 0 (slice_get_within (suppliers_of p d) there.0 s there.1))
