-- A core's flights end, and a run goes on from what had settled.
use Rattle.std.proofs.Common.{◌≡◌, inl, inr, ℕ, suc, ◌+◌, ◌<◌, ◌≤◌, Bool, true, false, not, List, [], ◌∷◌, Option, Some, None, length, cond, get_or, refl, sym, ap, ◌∙◌, arith}
use Rattle.std.specs.Prelude.{is_some, Result, Ok, Err, IfOk}
use Rattle.std.specs.List.{list_any}
use Rattle.std.proofs.lemmas.Bool.{cases_eq, or_from}
use Rattle.bus_plan.specs.Plan.{PlannedDevice, is_available, is_matched}
use Rattle.bus_core.specs.declared.event.Report.{Report}
use Rattle.bus_core.specs.declared.refusal.Refusal.{Refusal}
use Rattle.bus_core.specs.declared.refusal.Refusal.TheVariants as refusal
use Rattle.bus_core.specs.CoreState.{CoreValue, CoreState, Flight, is_in_flight}
use Rattle.bus_core.specs.declared.status.Status.TheVariants as status
use Rattle.bus_core.specs.Due.{is_due}
use Rattle.bus_core.specs.History.{bound_in, is_settled}
use Rattle.bus_core.specs.Parting.{has_flight}
use Rattle.bus_core.specs.Report.{end_status, status_of}
use Rattle.bus_core.specs.Step.{abandon_refusal, without_flight}
use Rattle.bus_core.proofs.HistoryLemmas.{bound-settled}
use Rattle.bus_core.proofs.Lists.{emptied-get}
use Rattle.bus_board.specs.Opening.{NotOpened}
use Rattle.bus_manager.specs.Notes.{leaves_note, has_settled}
use Rattle.bus_manager.specs.Private.Resumed.{IsEased}
use Rattle.bus_manager.specs.Run.{IsRun, IsRunAfter, IsRunOf}
use Rattle.bus_manager.specs.Private.Seen.{IsPut}
use Rattle.bus_manager.specs.Seen.{sees}
use Rattle.bus_manager.proofs.Landing.{emptied, not-flying}

-- an abandon
pub eased : (old new : CoreValue) (d : ℕ) → new ≡ record { plan = old.plan; state = without_flight old.state d } → IsEased old new d
eased old new d is = coe 1 0 (i. IsEased old (is i) d) (record {
  plan = refl;
  history = refl;
  here = ap is_some (emptied-get old.state.flights d);
  others = λ e landed. emptied old.state.flights d e (λ _. landed);
})

-- an abandon that was refused
pub uneased : (old new : CoreValue) (d : ℕ) (r : Refusal) → Some r ≡ abandon_refusal old.state d → new ≡ old → IsEased old new d
uneased old new d r refused same = coe 1 0 (i. IsEased old (same i) d) (record {
  plan = refl;
  history = refl;
  here = not-flying (is_in_flight old.state d) r refused;
  others = λ e landed. landed;
})

-- where no place has a flight, none is open
pub none-open : (flights : List (Option Flight)) → ((d : ℕ) → d < length flights → is_some (get_or flights d None) ≡ false) → list_any is_some flights ≡ false
none-open [] landed = refl
none-open (x ∷ flights) landed = or_from (is_some x) (list_any is_some flights) (landed 0 (omega arith)) (none-open flights (λ d within. landed (suc d) (omega arith)))

-- a core without flights is refused for want of memory alone
pub refused-memory : (s : CoreState) (r : Refusal) → has_flight s ≡ false → NotOpened s r → r ≡ refusal.NoMemory
refused-memory s refusal.NoMemory landed refused = refl
refused-memory s refusal.NotIdle landed refused = let no : ⊥ = cc in absurd no
refused-memory s refusal.Unmatched landed refused = absurd refused
refused-memory s refusal.StaleTicket landed refused = absurd refused
refused-memory s refusal.NotReady landed refused = absurd refused
refused-memory s refusal.WasBound landed refused = absurd refused
refused-memory s refusal.TooManyEvents landed refused = absurd refused
refused-memory s refusal.NotInFlight landed refused = absurd refused
refused-memory s refusal.KnownDriver landed refused = absurd refused

-- a device has settled where its status says so
pub status-settled : (plan : List PlannedDevice) (s : CoreState) (d : ℕ) → has_settled (status_of plan s d) ≡ is_settled s.history d
status-settled plan s d = at (bound_in s.history d) (is_settled s.history d) (bound-settled s.history d)
  where
    unsettled : (flying available matched due : Bool) → has_settled (cond flying status.Probing (cond (not available) status.Disabled (cond (not matched) status.Unmatched (cond due status.Due status.Waiting)))) ≡ false
    unsettled true available matched due = refl
    unsettled false false matched due = refl
    unsettled false true false due = refl
    unsettled false true true true = refl
    unsettled false true true false = refl

    at : (bound settled : Bool) → (bound ≡ true → settled ≡ true)
        → has_settled (cond bound status.Bound (cond settled status.Failed
        (cond (is_in_flight s d) status.Probing (cond (not (is_available plan d)) status.Disabled (cond (not (is_matched plan d)) status.Unmatched (cond (is_due plan s d) status.Due status.Waiting)))))) ≡ settled
    at true settled law = sym (law refl)
    at false true law = refl
    at false false law = unsettled (is_in_flight s d) (is_available plan d) (is_matched plan d) (is_due plan s d)

-- a place of the set is written
pub put-more : (test : ℕ → Bool) (old new : List ℕ) (n m : ℕ) (b : Bool) → IsPut old new m b → m ≡ n → b ≡ test m
    → ((d : ℕ) → d < n → sees old d ≡ test d) → (d : ℕ) → d < n + 1 → sees new d ≡ test d
put-more test old new n m b put at says before d within = elim (cases_eq d m) [
  | inl same ↦ ap (sees new) same ∙ put.here ∙ says ∙ ap test (sym same)
  | inr other ↦ put.others d other ∙ before d (omega arith)
]

-- and the places behind it stay empty
pub put-rest : (old new : List ℕ) (n m : ℕ) (b : Bool) → IsPut old new m b → m ≡ n → ((d : ℕ) → n ≤ d → sees old d ≡ false) → (d : ℕ) → n + 1 ≤ d → sees new d ≡ false
put-rest old new n m b put at empty d past = put.others d (λ q. absurd (omega (arith, q, at, past))) ∙ empty d (omega (arith, past))

-- two tests that agree on the plan's devices
pub run-before : {N : Type 0} (attests : ℕ → (ℕ → Bool) → Report → N → Type 0) (before other : ℕ → Bool) (plan : List PlannedDevice) (report : List ℕ) (notes : List (Option N))
    → ((d : ℕ) → d < length plan → before d ≡ other d) → IsRunAfter attests before plan report notes → IsRunAfter attests other plan report notes
run-before attests before other plan report notes same ran = record {
  ends = ran.ends;
  one = ran.one;
  places = ran.places;
  noted = λ d within. ran.noted d within ∙ ap (λ b. leaves_note b (end_status plan ran.ends.bound d)) (same d within);
  attested = ran.attested;
}

-- nothing had settled before a run from nothing
pub run-fresh : {N : Type 0} (attests : ℕ → (ℕ → Bool) → Report → N → Type 0) (before : List ℕ) (plan : List PlannedDevice) (report : List ℕ) (notes : List (Option N))
    → ((d : ℕ) → sees before d ≡ false) → IsRunAfter attests (sees before) plan report notes → IsRun attests plan report notes
run-fresh attests before plan report notes empty ran =
    run-before attests (sees before) (λ d. false) plan report notes (λ d within. empty d) ran

pub ok-weaker : {X E : Type 0} (P Q : X → Type 0) → ((x : X) → P x → Q x) → (r : Result X E) → IfOk r P → IfOk r Q
ok-weaker P Q weaker (Ok x) held = weaker x held
ok-weaker P Q weaker (Err e) held = tt

-- a run over a copy of the core's plan
pub run-of : {N : Type 0} (attests : List PlannedDevice → ℕ → (ℕ → Bool) → Report → N → Type 0) (before : ℕ → Bool) (plan : List PlannedDevice) (core : CoreValue) (report : List ℕ) (notes : List (Option N))
    → plan ≡ core.plan → ((d : ℕ) → d < length core.plan → before d ≡ is_settled core.state.history d)
    → IsRunAfter (attests plan) before plan report notes → IsRunOf (attests core.plan) core report notes
run-of attests before plan core report notes is same ran =
    run-before (attests core.plan) before (is_settled core.state.history) core.plan report notes same (coe 0 1 (i. IsRunAfter (attests (is i)) before (is i) report notes) ran)
