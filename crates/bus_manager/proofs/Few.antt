-- A core of few begins refuses a due device for want of memory alone.
use Rattle.std.proofs.Common.{◌≡◌, inl, inr, ℕ, ◌<◌, ◌≤◌, true, not, ◌&&◌, ◌||◌, List, Some, None, length, cond, sym, ap, ◌∙◌, lt-ltb, arith}
use Rattle.std.specs.Prelude.{count_by, nat_lt, Result, Ok, Err, IfErr}
use Rattle.std.proofs.lemmas.Bool.{and_parts}
use Rattle.bus_plan.specs.declared.limits.TheConstants.{MAX_DEVICES}
use Rattle.bus_plan.specs.Plan.{PlannedDevice, is_matched}
use Rattle.bus_core.specs.declared.limits.TheConstants.{MAX_BEGINS}
use Rattle.bus_core.specs.declared.refusal.Refusal.{Refusal}
use Rattle.bus_core.specs.declared.refusal.Refusal.TheVariants.{NoMemory, Unmatched, NotIdle, TooManyEvents}
use Rattle.bus_core.specs.CoreState.{CoreState, was_begun}
use Rattle.bus_core.specs.Due.{is_due, is_idle}
use Rattle.bus_core.specs.History.{bound_in}
use Rattle.bus_core.specs.Ready.{is_ready}
use Rattle.bus_core.specs.Step.{begin_refusal}
use Rattle.bus_manager.specs.Private.Counts.{is_abandon}
use Rattle.bus_manager.specs.Keeper.{KeeperValue, IsKept, IsTakeRefused}
use Rattle.bus_manager.proofs.Begins.{few-begins}

-- a due device is begun, while begins are left
pub due-allowed : (plan : List PlannedDevice) (s : CoreState) (d : ℕ) → is_due plan s d ≡ true → s.begins < MAX_BEGINS → begin_refusal plan s d ≡ None
due-allowed plan s d due few =
    let parts = and_parts (is_matched plan d) (is_idle s d && (not (was_begun s d) || is_ready plan (bound_in s.history) d)) due
    in let idle = (and_parts (is_idle s d) (not (was_begun s d) || is_ready plan (bound_in s.history) d) parts.1).0
    in ap (λ b. cond (not b) (Some Unmatched) (cond (not (is_idle s d)) (Some NotIdle) (cond (not (nat_lt s.begins MAX_BEGINS)) (Some TooManyEvents) None))) parts.0
    ∙ ap (λ b. cond (not b) (Some NotIdle) (cond (not (nat_lt s.begins MAX_BEGINS)) (Some TooManyEvents) None)) idle
    ∙ ap (λ b. cond (not b) (Some TooManyEvents) None) (lt-ltb s.begins MAX_BEGINS few)

pub only-memory : (k : KeeperValue) (r : Refusal) → IsKept k → length k.plan ≤ MAX_DEVICES → count_by is_abandon k.events ≤ length k.plan → IsTakeRefused k r → r ≡ NoMemory
only-memory k r kept small few refused = elim refused.refused [
  | inl memory ↦ memory.0
  | inr other ↦
      let allowed = due-allowed k.plan k.state refused.device refused.due (omega (arith, few-begins k kept, small, few))
      in let no : None ≡ Some r = sym allowed ∙ other
      in let never : ⊥ = cc in absurd never
]

pub err-weaker : {X E : Type 0} (P Q : E → Type 0) → ((e : E) → P e → Q e) → (r : Result X E) → IfErr r P → IfErr r Q
err-weaker P Q weaker (Ok x) held = tt
err-weaker P Q weaker (Err e) held = weaker e held
