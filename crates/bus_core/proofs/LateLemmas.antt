-- What a driver that comes late leaves: each device that had a driver stays as it was, and the suppliers of all do.
use Rattle.std.proofs.Common.{◌≡◌, inl, inr, ℕ, Bool, true, false, ◌&&◌, cond, List, [], ◌∷◌, ◌++◌, Option, Some, None, length, map, refl, sym, ap, ◌∙◌, true≢false, arith}
use Rattle.std.specs.Prelude.{is_some, is_none, filter}
use Rattle.std.specs.List.{list_all}
use Rattle.std.proofs.lemmas.Bool.{cases_lt}
use Rattle.std.proofs.lemmas.List.{get_or-map, get_or_past, length-map}
use Rattle.bus_plan.specs.LateDriver.{gets_driver, driven_by, device_with, with_driver, gaining}
use Rattle.bus_plan.specs.Plan.{PlannedDevice, nothing, planned, is_matched, suppliers_of, verdict_of}
use Rattle.bus_core.specs.declared.settle.Settle.{Settle}
use Rattle.bus_core.specs.History.{outcome_by, bound_in, IsBusStep, IsHistoryAfter}
use Rattle.bus_core.specs.Laws.{HistoryStays, LeastGrows}
use Rattle.bus_core.specs.Ready.{is_ready}
use Rattle.bus_core.proofs.HistoryLemmas.{ready-matched}

pub late-long : (plan : List PlannedDevice) (name : List ℕ) (strings : List (List ℕ)) → length (with_driver plan name strings) ≡ length plan
late-long plan name strings = length-map plan (device_with name strings)

pub late-at : (plan : List PlannedDevice) (name : List ℕ) (strings : List (List ℕ)) (d : ℕ) → planned (with_driver plan name strings) d ≡ device_with name strings (planned plan d)
late-at plan name strings d = elim (cases_lt d (length plan)) [
  | inl within ↦ get_or-map (device_with name strings) plan d nothing nothing within
  | inr past ↦
      get_or_past (map (device_with name strings) plan) d nothing (rw (late-long plan name strings) past)
      ∙ sym (ap (device_with name strings) (get_or_past plan d nothing past))
]

-- where nobody gains by it the plan stays
none-gained : (gets : Bool) (name : List ℕ) (d : PlannedDevice) (gaining new plan : List PlannedDevice)
    → length (cond gets (d ∷ gaining) gaining) ≡ 0 → (length gaining ≡ 0 → new ≡ plan) → cond gets (driven_by name d) d ∷ new ≡ d ∷ plan
none-gained true name d gaining new plan none rest = let some : length (d ∷ gaining) ≡ 0 = none in absurd (omega (arith, some))
none-gained false name d gaining new plan none rest = ap (λ ds. d ∷ ds) (rest none)

pub late-none : (plan : List PlannedDevice) (name : List ℕ) (strings : List (List ℕ)) → gaining plan strings ≡ 0 → with_driver plan name strings ≡ plan
late-none [] name strings none = refl
late-none (d ∷ plan) name strings none =
    none-gained (gets_driver d strings) name d (filter (λ d. gets_driver d strings) plan) (with_driver plan name strings) plan none (late-none plan name strings)

kept-suppliers : (test : Bool) (name : List ℕ) (d : PlannedDevice) → (cond test (driven_by name d) d).suppliers ≡ d.suppliers
kept-suppliers true name d = refl
kept-suppliers false name d = refl

pub late-suppliers : (plan : List PlannedDevice) (name : List ℕ) (strings : List (List ℕ)) (d : ℕ) → suppliers_of (with_driver plan name strings) d ≡ suppliers_of plan d
late-suppliers plan name strings d = ap (λ x. x.suppliers) (late-at plan name strings d) ∙ kept-suppliers (gets_driver (planned plan d) strings) name (planned plan d)

gets-none : (available : Bool) (driver : Option (List ℕ)) (shares : Bool) → (available && is_some driver) ≡ true → ((available && is_none driver) && shares) ≡ false
gets-none true (Some name) shares e = refl
gets-none true None shares e = absurd (true≢false (sym e))
gets-none false driver shares e = absurd (true≢false (sym e))

-- a device that has a driver stays as it is
pub late-keeps : (plan : List PlannedDevice) (name : List ℕ) (strings : List (List ℕ)) (d : ℕ) → is_matched plan d ≡ true → planned (with_driver plan name strings) d ≡ planned plan d
late-keeps plan name strings d matched =
    let old = planned plan d
    in let none : gets_driver old strings ≡ false = gets-none old.available old.driver _ matched
    in late-at plan name strings d ∙ ap (λ b. cond b (driven_by name old) old) none

pub late-ready : (plan : List PlannedDevice) (name : List ℕ) (strings : List (List ℕ)) (bound : ℕ → Bool) (d : ℕ) → is_ready plan bound d ≡ true → is_ready (with_driver plan name strings) bound d ≡ true
late-ready plan name strings bound d ready =
    ap (λ x. (x.available && is_some x.driver) && list_all bound x.suppliers) (late-keeps plan name strings d (ready-matched plan bound d ready)) ∙ ready

late-verdict : (plan : List PlannedDevice) (name : List ℕ) (strings : List (List ℕ)) (d : ℕ) → is_matched plan d ≡ true → verdict_of (with_driver plan name strings) d ≡ verdict_of plan d
late-verdict plan name strings d matched = ap (λ x. x.verdict) (late-keeps plan name strings d matched)

-- a history that was lawful stays so
step-late : (plan : List PlannedDevice) (name : List ℕ) (strings : List (List ℕ)) (before : List Settle) (s : Settle) → IsBusStep plan before s → IsBusStep (with_driver plan name strings) before s
step-late plan name strings before s step =
    let matched = ready-matched plan (bound_in before) s.device step.ready
    in record {
      once = step.once;
      ready = late-ready plan name strings (bound_in before) s.device step.ready;
      outcome = step.outcome ∙ ap outcome_by (sym (late-verdict plan name strings s.device matched));
    }

after-late : (plan : List PlannedDevice) (name : List ℕ) (strings : List (List ℕ)) (before rest : List Settle) → IsHistoryAfter plan before rest → IsHistoryAfter (with_driver plan name strings) before rest
after-late plan name strings before [] steps = steps
after-late plan name strings before (s ∷ rest) steps =
    (step-late plan name strings before s steps.0, after-late plan name strings (before ++ s ∷ []) rest steps.1)

pub history-late : HistoryStays
history-late plan name strings history steps = after-late plan name strings [] history steps

pub least-late : LeastGrows
least-late plan name strings bound grown least more d held =
    (more d).1 (λ set closed. (least d).0 held set
    (λ e ready binds. closed e (late-ready plan name strings set e ready) (late-verdict plan name strings e (ready-matched plan set e ready) ∙ binds)))
