-- The devices that a run has bound are the least set.
use Rattle.std.proofs.Common.{◌≡◌, inl, inr, ℕ, ◌+◌, ◌<◌, Bool, true, false, not, ◌&&◌, List, [], ◌∷◌, ◌++◌, Option, length, get_or, cond, refl, sym, ap, ap₂, ◌∙◌, subst, true≢false, arith, length-append}
use Rattle.std.proofs.lemmas.Bool.{cases_lt, false_from_ne_true}
use Rattle.std.proofs.lemmas.List.{get_or_append_left, get_or_push, get_or_past}
use Rattle.bus_plan.specs.Plan.{PlannedDevice, is_available, is_matched, verdict_of}
use Rattle.bus_plan.specs.declared.verdict.Verdict.{Verdict}
use Rattle.bus_plan.specs.declared.verdict.Verdict.TheVariants.{Binds, Fails}
use Rattle.bus_core.specs.Least.{IsLeast, IsClosed}
use Rattle.bus_core.specs.Ready.{is_ready}
use Rattle.bus_core.specs.Report.{end_status}
use Rattle.bus_core.specs.declared.event.Report.{Report}
use Rattle.bus_core.specs.declared.status.Status.TheVariants as status
use Rattle.bus_core.proofs.HistoryLemmas.{matched-below, matched-available, ready-matched, ready-weaker}
use Rattle.bus_manager.specs.Notes.{has_settled, has_note}
use Rattle.bus_manager.specs.Run.{IsRun}
use Rattle.bus_picture.specs.Why.Chain.{bound_by}
use Rattle.dtman_why.specs.End.{does_bind, AreBound}

binds-is : (v : Verdict) → does_bind v ≡ true → v ≡ Binds
binds-is Binds does = refl
binds-is Fails does = absurd (true≢false (sym does))

-- a device with a note whose driver binds it is bound
settled-binds : (available matched bound ready binds : Bool)
    → (bound ≡ true → matched ≡ true) → (matched ≡ true → available ≡ true) → (bound ≡ true → binds ≡ true) → (ready ≡ true → binds ≡ true → bound ≡ true)
    → (has_settled (cond (not available) status.Disabled (cond (not matched) status.Unmatched (cond bound status.Bound (cond ready status.Failed status.Waiting)))) && binds) ≡ bound
settled-binds true true true ready true a b c d = refl
settled-binds true true true ready false a b c d = absurd (true≢false (sym (c refl)))
settled-binds available false true ready binds a b c d = absurd (true≢false (sym (a refl)))
settled-binds false true true ready binds a b c d = absurd (true≢false (sym (b refl)))
settled-binds false matched false ready binds a b c d = refl
settled-binds true false false ready binds a b c d = refl
settled-binds true true false false binds a b c d = refl
settled-binds true true false true false a b c d = refl
settled-binds true true false true true a b c d = absurd (true≢false (sym (d refl refl)))

module _ (plan : List PlannedDevice) (set : ℕ → Bool) (least : IsLeast plan set) where
  least-matched : (d : ℕ) → set d ≡ true → is_matched plan d ≡ true
  least-matched d held = (least d).0 held (is_matched plan) (λ e ready binds. ready-matched plan (is_matched plan) e ready)

  least-binds : (d : ℕ) → set d ≡ true → does_bind (verdict_of plan d) ≡ true
  least-binds d held = (least d).0 held (λ e. does_bind (verdict_of plan e)) (λ e ready binds. ap does_bind binds)

  least-closed : (d : ℕ) → is_ready plan set d ≡ true → does_bind (verdict_of plan d) ≡ true → set d ≡ true
  least-closed d ready binds =
      (least d).1 (λ other closed. closed d (ready-weaker plan set other (λ e held. (least e).0 held other closed) d ready) (binds-is (verdict_of plan d) binds))

pub end-least : (attests : ℕ → (ℕ → Bool) → Report → ℕ → Type 0) (plan : List PlannedDevice) (report : List ℕ) (notes : List (Option ℕ)) (bound : List Bool)
    → IsRun attests plan report notes → AreBound plan notes bound → IsLeast plan (bound_by bound)
end-least attests plan report notes bound run are d =
    (λ held. (run.ends.least d).0 (sym same ∙ held), λ inside. same ∙ (run.ends.least d).1 inside)
  where
    same : bound_by bound d ≡ run.ends.bound d
    same = elim (cases_lt d (length plan)) [
      | inl within ↦
          are.each d within ∙ ap (λ b. b && does_bind (verdict_of plan d)) (run.noted d within)
          ∙ settled-binds (is_available plan d) (is_matched plan d) (run.ends.bound d) (is_ready plan run.ends.bound d) (does_bind (verdict_of plan d))
          (least-matched plan run.ends.bound run.ends.least d) (matched-available plan d) (least-binds plan run.ends.bound run.ends.least d) (least-closed plan run.ends.bound run.ends.least d)
      | inr past ↦
          let absent : bound_by bound d ≡ false = get_or_past bound d false (omega (arith, are.places))
          in let outside : run.ends.bound d ≡ false = false_from_ne_true (run.ends.bound d) (λ held.
          let below : d < length plan = matched-below plan d (least-matched plan run.ends.bound run.ends.least d held)
          in absurd (omega arith))
          in absent ∙ sym outside
    ]

-- a place more
pub bound-more : (plan : List PlannedDevice) (notes : List (Option ℕ)) (n : ℕ) (bound : List Bool) (b : Bool)
    → length bound ≡ n → ((d : ℕ) → d < n → get_or bound d false ≡ (has_note notes d && does_bind (verdict_of plan d)))
    → b ≡ (has_note notes n && does_bind (verdict_of plan n))
    → (d : ℕ) → d < n + 1 → get_or (bound ++ b ∷ []) d false ≡ (has_note notes d && does_bind (verdict_of plan d))
bound-more plan notes n bound b long each last d below = elim (cases_lt d n) [
  | inl inside ↦ get_or_append_left bound (b ∷ []) false d (omega arith) ∙ each d inside
  | inr past ↦
      let same : d ≡ n = omega arith
      in get_or_push bound b false d (omega arith) ∙ last ∙ ap (λ e. has_note notes e && does_bind (verdict_of plan e)) (sym same)
]
