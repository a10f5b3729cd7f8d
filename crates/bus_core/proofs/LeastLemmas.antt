-- Where nothing is due or in flight, the bound devices are the least set, and the report is the end report.
use Rattle.std.proofs.Common.{◌≡◌, inl, inr, ◌<◌, ℕ, Bool, true, false, not, ◌&&◌, ◌||◌, List, [], ◌++◌, length, cond, refl, sym, ap, ap₂, ◌∙◌, subst, true≢false, arith}
use mathlib.Core.Path.{fun_ext}
use Rattle.std.specs.List.{list_all}
use Rattle.std.specs.Prelude.{codes}
use Rattle.std.proofs.lemmas.Bool.{and_parts, and_from, or_parts, or_from, or_right, cases_Bool, not-true, not_from_false}
use Rattle.bus_plan.specs.Plan.{PlannedDevice, is_matched, is_available, suppliers_of, verdict_of}
use Rattle.bus_core.specs.declared.settle.Settle.{Settle}
use Rattle.bus_core.specs.declared.status.Status.TheVariants as status
use Rattle.bus_core.specs.CoreState.{CoreState, is_in_flight, was_begun}
use Rattle.bus_core.specs.Due.{is_due, is_idle, is_quiet}
use Rattle.bus_core.specs.History.{bound_in, is_settled, IsBusHistory}
use Rattle.bus_core.specs.Laws.{QuietIsLeast, SuppliersComeFirst, QuietReportIsTheEnd, EndReportIsOne}
use Rattle.bus_core.specs.Least.{IsClosed}
use Rattle.bus_core.specs.Ready.{is_ready}
use Rattle.bus_core.specs.Report.{missing_supplier, status_of, end_status, line_of, core_line, end_line, report_text, end_text}
use Rattle.bus_core.proofs.HistoryLemmas.{along, matched-below, matched-available, ready-matched, ready-weaker, bound-push_cases, bound-verdict, settled-ready, settled-bound, bound-settled, step-within}
use Rattle.bus_core.proofs.Lists.{list_all_in_range, flat_map_same}

-- the devices bound in a history are in every closed set
pub bound-closed : (plan : List PlannedDevice) (h : List Settle) → IsBusHistory plan h → (set : ℕ → Bool) → IsClosed plan set → (d : ℕ) → bound_in h d ≡ true → set d ≡ true
bound-closed plan h steps set closed = along plan (λ h. (d : ℕ) → bound_in h d ≡ true → set d ≡ true)
    (λ before s held step d bound. elim (bound-push_cases before s d bound) [
      | inl earlier ↦ held d earlier
      | inr now ↦ subst (λ n. set n ≡ true) now.1
          (closed s.device (ready-weaker plan (bound_in before) set held s.device step.ready) (bound-verdict (verdict_of plan s.device) s.outcome step.outcome now.0))
    ])
    [] h (λ d bound. absurd (true≢false (sym bound))) steps

-- what quiet says of one device
pub quiet-at : (plan : List PlannedDevice) (s : CoreState) → is_quiet plan s ≡ true → (d : ℕ) → d < length plan → (is_in_flight s d ≡ false) × (is_due plan s d ≡ false)
quiet-at plan s quiet d within =
    or_parts (is_in_flight s d) (is_due plan s d)
    (not-true (is_in_flight s d || is_due plan s d)
    (list_all_in_range (λ d. not (is_in_flight s d || is_due plan s d)) (length plan) 0 d quiet (omega arith) (omega arith)))

-- an idle device that isn't due isn't ready
pub idle-not_ready : (plan : List PlannedDevice) (s : CoreState) (d : ℕ) → is_settled s.history d ≡ false → is_in_flight s d ≡ false → is_due plan s d ≡ false → is_ready plan (bound_in s.history) d ≡ true → ⊥
idle-not_ready plan s d unsettled landed undue ready =
    let idle : is_idle s d ≡ true = not_from_false (is_in_flight s d || is_settled s.history d) (or_from (is_in_flight s d) (is_settled s.history d) landed unsettled)
    in let due : is_due plan s d ≡ true =
    and_from (is_matched plan d) (is_idle s d && (not (was_begun s d) || is_ready plan (bound_in s.history) d)) (ready-matched plan (bound_in s.history) d ready)
    (and_from (is_idle s d) (not (was_begun s d) || is_ready plan (bound_in s.history) d) idle
    (or_right (not (was_begun s d)) (is_ready plan (bound_in s.history) d) ready))
    in true≢false (sym due ∙ undue)

-- where nothing is due or in flight, the bound devices are closed
pub quiet-closed : (plan : List PlannedDevice) (s : CoreState) → IsBusHistory plan s.history → is_quiet plan s ≡ true → IsClosed plan (bound_in s.history)
quiet-closed plan s steps quiet d ready binds = elim (cases_Bool (is_settled s.history d)) [
  | inl settled ↦ settled-bound plan s.history steps d settled binds
  | inr unsettled ↦
      let at : (is_in_flight s d ≡ false) × (is_due plan s d ≡ false) = quiet-at plan s quiet d (matched-below plan d (ready-matched plan (bound_in s.history) d ready))
      in absurd (idle-not_ready plan s d unsettled at.0 at.1 ready)
]

pub quiet-least : QuietIsLeast
quiet-least plan s steps quiet d =
    (λ bound set closed. bound-closed plan s.history steps set closed d bound, λ inside. inside (bound_in s.history) (quiet-closed plan s steps quiet))

pub suppliers-first : SuppliersComeFirst
suppliers-first plan front s rest steps =
    (and_parts (is_matched plan s.device) (list_all (bound_in front) (suppliers_of plan s.device)) (step-within plan [] front s rest steps).ready).1

-- the chains of two statuses, one asked first whether the device has settled, the other last
pub same-status : (bound settled flying available matched due ready : Bool)
    → (bound ≡ true → settled ≡ true) → (settled ≡ true → ready ≡ true) → (ready ≡ true → matched ≡ true) → (matched ≡ true → available ≡ true)
    → flying ≡ false → due ≡ false → (settled ≡ false → ready ≡ true → ⊥)
    → cond bound status.Bound (cond settled status.Failed (cond flying status.Probing (cond (not available) status.Disabled (cond (not matched) status.Unmatched (cond due status.Due status.Waiting)))))
    ≡ cond (not available) status.Disabled (cond (not matched) status.Unmatched (cond bound status.Bound (cond ready status.Failed status.Waiting)))
same-status bound settled true available matched due ready a b c d landed undue e = absurd (true≢false landed)
same-status bound settled false available matched true ready a b c d landed undue e = absurd (true≢false undue)
same-status true false false available matched false ready a b c d landed undue e = absurd (true≢false (sym (a refl)))
same-status bound true false available matched false false a b c d landed undue e = absurd (true≢false (sym (b refl)))
same-status bound settled false available false false true a b c d landed undue e = absurd (true≢false (sym (c refl)))
same-status bound settled false false true false ready a b c d landed undue e = absurd (true≢false (sym (d refl)))
same-status bound false false available matched false true a b c d landed undue e = absurd (e refl refl)
same-status true true false true true false true a b c d landed undue e = refl
same-status false true false true true false true a b c d landed undue e = refl
same-status false false false true true false false a b c d landed undue e = refl
same-status false false false true false false false a b c d landed undue e = refl
same-status false false false false false false false a b c d landed undue e = refl

pub quiet-status : (plan : List PlannedDevice) (s : CoreState) → IsBusHistory plan s.history → is_quiet plan s ≡ true → (d : ℕ) → d < length plan → status_of plan s d ≡ end_status plan (bound_in s.history) d
quiet-status plan s steps quiet d within =
    let at : (is_in_flight s d ≡ false) × (is_due plan s d ≡ false) = quiet-at plan s quiet d within
    in same-status (bound_in s.history d) (is_settled s.history d) (is_in_flight s d) (is_available plan d) (is_matched plan d) (is_due plan s d) (is_ready plan (bound_in s.history) d)
    (bound-settled s.history d) (settled-ready plan s.history steps d) (ready-matched plan (bound_in s.history) d) (matched-available plan d)
    at.0 at.1 (λ unsettled. idle-not_ready plan s d unsettled at.0 at.1)

-- the report of a quiet core is the end report of its bound devices
pub quiet-text : (plan : List PlannedDevice) (s : CoreState) → IsBusHistory plan s.history → is_quiet plan s ≡ true → report_text plan s ≡ end_text plan (bound_in s.history)
quiet-text plan s steps quiet =
    ap₂ (λ lines last. lines ++ last)
    (flat_map_same (core_line plan s) (end_line plan (bound_in s.history)) (length plan) 0
    (λ d above below. ap (λ said. line_of plan (missing_supplier plan (bound_in s.history) d) said d) (quiet-status plan s steps quiet d (omega arith))))
    (ap (λ b. cond b (codes "quiet\n") (codes "busy\n")) quiet)

pub quiet-end : QuietReportIsTheEnd
quiet-end plan s steps quiet = record { bound = bound_in s.history; least = quiet-least plan s steps quiet; text_is = quiet-text plan s steps quiet }

-- two tests that each follow from the other are one
same_test : (p q : ℕ → Bool) (d : ℕ) → (p d ≡ true → q d ≡ true) → (q d ≡ true → p d ≡ true) → p d ≡ q d
same_test p q d to from = elim (cases_Bool (p d)) [
  | inl passes ↦ passes ∙ sym (to passes)
  | inr fails ↦ elim (cases_Bool (q d)) [ inl other ↦ absurd (true≢false (sym (from other) ∙ fails)) | inr other ↦ fails ∙ sym other ]
]

-- two least sets are one, so two end reports are one text
pub end-one : EndReportIsOne
end-one plan one other a b =
    let same : a.bound ≡ b.bound = fun_ext (λ d. same_test a.bound b.bound d (λ held. (b.least d).1 ((a.least d).0 held)) (λ held. (a.least d).1 ((b.least d).0 held)))
    in a.text_is ∙ ap (end_text plan) same ∙ sym b.text_is
