-- What a note shows of its device.
use Rattle.std.proofs.Common.{◌≡◌, inl, inr, ℕ, Bool, true, false, not, ◌&&◌, List, eqb, cond, refl, sym, ap, ◌∙◌, true≢false, eq-eqb, eqb-true}
use Rattle.std.specs.List.{list_all}
use Rattle.std.proofs.lemmas.Bool.{and_parts, and_from, cases_Bool}
use mathlib.Core.Path.{fun_ext}
use Rattle.bus_plan.specs.Plan.{PlannedDevice, is_matched, is_available, suppliers_of}
use Rattle.bus_core.specs.CoreState.{CoreState}
use Rattle.bus_core.specs.History.{IsBusHistory, bound_in}
use Rattle.bus_core.specs.Least.{IsClosed, IsLeast}
use Rattle.bus_core.specs.Ready.{is_ready}
use Rattle.bus_core.specs.Report.{status_of, end_status}
use Rattle.bus_core.specs.declared.event.Report.{Report}
use Rattle.bus_core.specs.declared.event.Report.TheVariants.{Settled, Missing}
use Rattle.bus_core.specs.declared.status.Status.TheVariants as status
use Rattle.bus_core.proofs.HistoryLemmas.{ready-weaker, settled-ready}
use Rattle.bus_board.proofs.Histories.{has_all}
use Rattle.bus_manager.specs.Notes.{has_settled}
use Rattle.bus_manager.specs.Private.Notes.{AreForced, IsShown}
use Rattle.bus_manager.specs.Prober.{IsLawfulReport}
use Rattle.bus_manager.specs.Run.{IsProbed}
use Rattle.bus_manager.proofs.FlyingLemmas.{any-has}
use Rattle.bus_manager.proofs.ResumedLemmas.{status-settled}

-- a probe that settled
pub shown : {N : Type 0} (attests : (ℕ → Bool) → Report → N → Type 0) (plan : List PlannedDevice) (seen : ℕ → Bool) (d : ℕ) (report : Report) (note : N)
    → AreForced plan seen → IsLawfulReport plan seen d report → attests seen report note → report ≡ Settled → IsShown attests plan d note
shown attests plan seen d Settled note forced lawful attested is = record { seen = seen; suppliers = lawful; forced = forced; attested = attested }
shown attests plan seen d (Missing supplier) note forced lawful attested is = let no : ⊥ = cc in absurd no

-- one that was told of all suppliers settles
pub told-settles : (plan : List PlannedDevice) (seen : ℕ → Bool) (d : ℕ) (report : Report) → list_all seen (suppliers_of plan d) ≡ true → IsLawfulReport plan seen d report → report ≡ Settled
told-settles plan seen d Settled all lawful = refl
told-settles plan seen d (Missing supplier) all lawful =
    absurd (true≢false (sym (has_all seen (suppliers_of plan d) all supplier (any-has (suppliers_of plan d) supplier lawful.0)) ∙ lawful.1))

-- at the end the forced devices are bound
pub probed : {N : Type 0} (attests : (ℕ → Bool) → Report → N → Type 0) (plan : List PlannedDevice) (bound : ℕ → Bool) (d : ℕ) (note : N) → IsLeast plan bound → IsShown attests plan d note → IsProbed attests plan bound d note
probed attests plan bound d note least s = record { seen = s.seen; suppliers = s.suppliers; within = λ x saw. (least x).1 (s.forced x saw); attested = s.attested }

all-told : (plan : List PlannedDevice) (bound seen : ℕ → Bool) (d : ℕ) → ((s : ℕ) → seen s ≡ bound s) → is_ready plan bound d ≡ true → list_all seen (suppliers_of plan d) ≡ true
all-told plan bound seen d is ready =
    ap (λ (p : ℕ → Bool). list_all p (suppliers_of plan d)) (fun_ext is) ∙ (and_parts (is_matched plan d) (list_all bound (suppliers_of plan d)) ready).1

-- the suppliers of a device that has settled in a history are bound in it
pub settled-told_all : (plan : List PlannedDevice) (s : CoreState) (seen : ℕ → Bool) (d : ℕ) → IsBusHistory plan s.history → ((x : ℕ) → seen x ≡ bound_in s.history x)
    → has_settled (status_of plan s d) ≡ true → list_all seen (suppliers_of plan d) ≡ true
settled-told_all plan s seen d steps is settled =
    all-told plan (bound_in s.history) seen d is (settled-ready plan s.history steps d (sym (status-settled plan s d) ∙ settled))

-- the least set is closed
least-closed : (plan : List PlannedDevice) (bound : ℕ → Bool) → IsLeast plan bound → IsClosed plan bound
least-closed plan bound least d ready binds =
    (least d).1 (λ set closed. closed d (ready-weaker plan bound set (λ x b. (least x).0 b set closed) d ready) binds)

-- it has no device that isn't ready for it, as it would be closed without that one too
pub least-ready : (plan : List PlannedDevice) (bound : ℕ → Bool) → IsLeast plan bound → (d : ℕ) → bound d ≡ true → is_ready plan bound d ≡ true
least-ready plan bound least d held = elim (cases_Bool (is_ready plan bound d)) [
  | inl ready ↦ ready
  | inr unready ↦
      let less : ℕ → Bool = λ x. bound x && not (eqb d x)
      in let weaker : (x : ℕ) → less x ≡ true → bound x ≡ true = λ x e. (and_parts (bound x) (not (eqb d x)) e).0
      in let closed : IsClosed plan less = λ e ready binds.
      let before : is_ready plan bound e ≡ true = ready-weaker plan less bound weaker e ready
      in let apart : eqb d e ≡ false = elim (cases_Bool (eqb d e)) [
        | inl same ↦ absurd (true≢false (sym before ∙ (ap (is_ready plan bound) (sym (eqb-true d e same)) ∙ unready)))
        | inr other ↦ other
      ]
      in and_from (bound e) (not (eqb d e)) (least-closed plan bound least e before binds) (ap not apart)
      in let out : less d ≡ true = (least d).0 held less closed
      in let no : not (eqb d d) ≡ true = (and_parts (bound d) (not (eqb d d)) out).1
      in absurd (true≢false (sym no ∙ ap not (eq-eqb d d refl)))
]

-- the suppliers of a device that has settled at the end are bound
pub ended-told_all : (plan : List PlannedDevice) (bound seen : ℕ → Bool) (d : ℕ) → IsLeast plan bound → ((x : ℕ) → seen x ≡ bound x)
    → has_settled (end_status plan bound d) ≡ true → list_all seen (suppliers_of plan d) ≡ true
ended-told_all plan bound seen d least is settled = all-told plan bound seen d is (at (is_available plan d) (is_matched plan d) (bound d) (is_ready plan bound d) (least-ready plan bound least d) settled)
  where
    at : (available matched held ready : Bool) → (held ≡ true → ready ≡ true)
        → has_settled (cond (not available) status.Disabled (cond (not matched) status.Unmatched (cond held status.Bound (cond ready status.Failed status.Waiting)))) ≡ true → ready ≡ true
    at false matched held ready law e = absurd (true≢false (sym e))
    at true false held ready law e = absurd (true≢false (sym e))
    at true true true ready law e = law refl
    at true true false true law e = refl
    at true true false false law e = absurd (true≢false (sym e))
