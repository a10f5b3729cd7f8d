-- What holds along a history of the sequential bus.
use Rattle.std.proofs.Common.{◌≡◌, ◌⊎◌, inl, inr, ◌<◌, ℕ, Bool, true, false, ◌&&◌, ◌||◌, List, [], ◌∷◌, ◌++◌, length, eqb, refl, sym, ap, ◌∙◌, subst, true≢false, append-nil, append_assoc, eq-eqb, eqb-true}
use Rattle.std.specs.Prelude.{is_some}
use Rattle.std.specs.List.{list_all}
use Rattle.std.proofs.lemmas.Bool.{and_parts, and_from, or_cases, or_left, or_right, cases_lt}
use Rattle.std.proofs.lemmas.List.{get_or_past}
use Rattle.bus_plan.specs.Plan.{PlannedDevice, is_matched, suppliers_of, verdict_of, is_available, nothing}
use Rattle.bus_plan.specs.declared.verdict.Verdict.{Verdict}
use Rattle.bus_plan.specs.declared.verdict.Verdict.TheVariants.{Binds, Fails}
use Rattle.bus_core.specs.declared.settle.Settle.{Settle}
use Rattle.bus_core.specs.declared.settle.Outcome.{Outcome}
use Rattle.bus_core.specs.declared.settle.Outcome.TheVariants.{Bound}
use Rattle.bus_core.specs.History.{outcome_by, is_bound, bound_in, is_settled, IsBusStep, IsHistoryAfter, IsBusHistory}
use Rattle.bus_core.specs.Ready.{is_ready}
use Rattle.bus_core.proofs.Lists.{list_any_push, list_all_weaker}

-- a device that is matched is in the plan
pub matched-below : (plan : List PlannedDevice) (d : ℕ) → is_matched plan d ≡ true → d < length plan
matched-below plan d matched = elim (cases_lt d (length plan)) [
  | inl within ↦ within
  | inr past ↦
      let none : is_matched plan d ≡ false = ap (λ x. x.available && is_some x.driver) (get_or_past plan d nothing past)
      in absurd (true≢false (sym matched ∙ none))
]

pub matched-available : (plan : List PlannedDevice) (d : ℕ) → is_matched plan d ≡ true → is_available plan d ≡ true
matched-available plan d matched = (and_parts _ _ matched).0

pub ready-matched : (plan : List PlannedDevice) (bound : ℕ → Bool) (d : ℕ) → is_ready plan bound d ≡ true → is_matched plan d ≡ true
ready-matched plan bound d ready = (and_parts (is_matched plan d) (list_all bound (suppliers_of plan d)) ready).0

pub ready-weaker : (plan : List PlannedDevice) (p q : ℕ → Bool) → ((d : ℕ) → p d ≡ true → q d ≡ true) → (d : ℕ) → is_ready plan p d ≡ true → is_ready plan q d ≡ true
ready-weaker plan p q weaker d ready =
    let parts = and_parts (is_matched plan d) (list_all p (suppliers_of plan d)) ready
    in and_from (is_matched plan d) (list_all q (suppliers_of plan d)) parts.0 (list_all_weaker p q weaker (suppliers_of plan d) parts.1)

-- one settle more
pub bound_in-push : (h : List Settle) (s : Settle) (d : ℕ) → bound_in (h ++ s ∷ []) d ≡ (bound_in h d || (is_bound s.outcome && eqb s.device d))
bound_in-push h s d = list_any_push (λ s. is_bound s.outcome && eqb s.device d) h s

pub is_settled-push : (h : List Settle) (s : Settle) (d : ℕ) → is_settled (h ++ s ∷ []) d ≡ (is_settled h d || eqb s.device d)
is_settled-push h s d = list_any_push (λ s. eqb s.device d) h s

pub bound-push_cases : (h : List Settle) (s : Settle) (d : ℕ) → bound_in (h ++ s ∷ []) d ≡ true → (bound_in h d ≡ true) ⊎ ((is_bound s.outcome ≡ true) × (s.device ≡ d))
bound-push_cases h s d held = elim (or_cases (bound_in h d) (is_bound s.outcome && eqb s.device d) (sym (bound_in-push h s d) ∙ held)) [
  | inl before ↦ inl before
  | inr now ↦
      let parts = and_parts (is_bound s.outcome) (eqb s.device d) now
      in inr (parts.0, eqb-true s.device d parts.1)
]

pub settled-push_cases : (h : List Settle) (s : Settle) (d : ℕ) → is_settled (h ++ s ∷ []) d ≡ true → (is_settled h d ≡ true) ⊎ (s.device ≡ d)
settled-push_cases h s d held = elim (or_cases (is_settled h d) (eqb s.device d) (sym (is_settled-push h s d) ∙ held)) [
  | inl before ↦ inl before
  | inr now ↦ inr (eqb-true s.device d now)
]

-- what was bound stays so
pub bound-stays : (h : List Settle) (s : Settle) (d : ℕ) → bound_in h d ≡ true → bound_in (h ++ s ∷ []) d ≡ true
bound-stays h s d held = bound_in-push h s d ∙ or_left (bound_in h d) (is_bound s.outcome && eqb s.device d) held

-- what each step of the bus keeps holds of a whole history
pub along : (plan : List PlannedDevice) (P : List Settle → Type 0)
    → ((before : List Settle) (s : Settle) → P before → IsBusStep plan before s → P (before ++ s ∷ []))
    → (before rest : List Settle) → P before → IsHistoryAfter plan before rest → P (before ++ rest)
along plan P kept before [] held steps = subst P (sym (append-nil before)) held
along plan P kept before (s ∷ rest) held steps =
    subst P (append_assoc before (s ∷ []) rest) (along plan P kept (before ++ s ∷ []) rest (kept before s held steps.0) steps.1)

-- a history goes on by a step
pub history-push : (plan : List PlannedDevice) (before rest : List Settle) (s : Settle)
    → IsHistoryAfter plan before rest → IsBusStep plan (before ++ rest) s → IsHistoryAfter plan before (rest ++ s ∷ [])
history-push plan before [] s steps step = (let P : List Settle → Type 0 = λ h. IsBusStep plan h s in subst P (append-nil before) step, tt)
history-push plan before (r ∷ rest) s steps step = (
  steps.0,
  history-push plan (before ++ r ∷ []) rest s steps.1
      (let P : List Settle → Type 0 = λ h. IsBusStep plan h s in subst P (sym (append_assoc before (r ∷ []) rest)) step),
)

-- the step in the middle of a history
pub step-within : (plan : List PlannedDevice) (before front : List Settle) (s : Settle) (rest : List Settle)
    → IsHistoryAfter plan before (front ++ s ∷ rest) → IsBusStep plan (before ++ front) s
step-within plan before [] s rest steps = let P : List Settle → Type 0 = λ h. IsBusStep plan h s in subst P (sym (append-nil before)) steps.0
step-within plan before (f ∷ front) s rest steps =
    let P : List Settle → Type 0 = λ h. IsBusStep plan h s
    in subst P (append_assoc before (f ∷ []) front) (step-within plan (before ++ f ∷ []) front s rest steps.1)

-- the verdict of a device that bound
pub bound-verdict : (v : Verdict) (o : Outcome) → o ≡ outcome_by v → is_bound o ≡ true → v ≡ Binds
bound-verdict Binds o e held = refl
bound-verdict Fails o e held = absurd (true≢false (sym held ∙ ap is_bound e))

-- a settled device is ready for the devices bound so far
pub settled-ready : (plan : List PlannedDevice) (h : List Settle) → IsBusHistory plan h → (d : ℕ) → is_settled h d ≡ true → is_ready plan (bound_in h) d ≡ true
settled-ready plan h steps = along plan (λ h. (d : ℕ) → is_settled h d ≡ true → is_ready plan (bound_in h) d ≡ true)
    (λ before s held step d settled. ready-weaker plan (bound_in before) (bound_in (before ++ s ∷ [])) (λ e. bound-stays before s e) d
    (elim (settled-push_cases before s d settled) [
      | inl earlier ↦ held d earlier
      | inr now ↦ subst (λ n. is_ready plan (bound_in before) n ≡ true) now step.ready
    ]))
    [] h (λ d settled. absurd (true≢false (sym settled))) steps

-- a settled device whose driver binds it is bound
pub settled-bound : (plan : List PlannedDevice) (h : List Settle) → IsBusHistory plan h → (d : ℕ) → is_settled h d ≡ true → verdict_of plan d ≡ Binds → bound_in h d ≡ true
settled-bound plan h steps = along plan (λ h. (d : ℕ) → is_settled h d ≡ true → verdict_of plan d ≡ Binds → bound_in h d ≡ true)
    (λ before s held step d settled binds. elim (settled-push_cases before s d settled) [
      | inl earlier ↦ bound-stays before s d (held d earlier binds)
      | inr now ↦
          let outcome : s.outcome ≡ Bound = step.outcome ∙ ap outcome_by (ap (verdict_of plan) now ∙ binds)
          in bound_in-push before s d ∙ or_right (bound_in before d) (is_bound s.outcome && eqb s.device d)
          (and_from (is_bound s.outcome) (eqb s.device d) (ap is_bound outcome) (eq-eqb s.device d now))
    ])
    [] h (λ d settled binds. absurd (true≢false (sym settled))) steps

-- a bound device is settled
pub bound-settled : (h : List Settle) (d : ℕ) → bound_in h d ≡ true → is_settled h d ≡ true
bound-settled [] d held = held
bound-settled (s ∷ h) d held = elim (or_cases (is_bound s.outcome && eqb s.device d) (bound_in h d) held) [
  | inl now ↦ or_left (eqb s.device d) (is_settled h d) (and_parts (is_bound s.outcome) (eqb s.device d) now).1
  | inr later ↦ or_right (eqb s.device d) (is_settled h d) (bound-settled h d later)
]
