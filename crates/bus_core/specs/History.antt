-- What the sequential bus can do (Linux driver-api, driver model): one device after another settles, each with its
-- suppliers bound before it. There is no queue, no retry and no probe in flight.
use Rattle.std.specs.Prelude.{◌≡◌, ◌==◌, ℕ, Bool, true, false, ◌&&◌, List, [], ◌∷◌, ◌++◌}
use Rattle.std.specs.List.{list_any}
use Rattle.bus_plan.specs.Plan.{PlannedDevice, verdict_of}
use Rattle.bus_plan.specs.declared.verdict.Verdict.{Verdict}
use Rattle.bus_plan.specs.declared.verdict.Verdict.TheVariants.{Binds, Fails}
use Rattle.bus_core.specs.declared.settle.Settle.{Settle}
use Rattle.bus_core.specs.declared.settle.Outcome.{Outcome}
use Rattle.bus_core.specs.declared.settle.Outcome.TheVariants.{Bound, Failed}
use Rattle.bus_core.specs.Ready.{is_ready}

-- the outcome of a probe that saw all suppliers bound
abbrev pub outcome_by : Verdict → Outcome
outcome_by Binds = Bound
outcome_by Fails = Failed

abbrev pub is_bound : Outcome → Bool
is_bound Bound = true
is_bound Failed = false

-- the devices bound in a history, and those settled in it, bound or failed
abbrev pub bound_in : List Settle → ℕ → Bool
bound_in history d = list_any (λ s. is_bound s.outcome && s.device == d) history

abbrev pub is_settled : List Settle → ℕ → Bool
is_settled history d = list_any (λ s. s.device == d) history

-- one step of the sequential bus: what may settle next after these
pub record IsBusStep (plan : List PlannedDevice) (before : List Settle) (s : Settle) : Type 0 where
  pub once : is_settled before s.device ≡ false
  pub ready : is_ready plan (bound_in before) s.device ≡ true
  pub outcome : s.outcome ≡ outcome_by (verdict_of plan s.device)

-- each of the settles is a step of the bus after those before it
abbrev pub IsHistoryAfter : List PlannedDevice → List Settle → List Settle → Type 0
IsHistoryAfter plan before [] = Unit {0}
IsHistoryAfter plan before (s ∷ rest) = IsBusStep plan before s × IsHistoryAfter plan (before ++ s ∷ []) rest

abbrev pub IsBusHistory : List PlannedDevice → List Settle → Type 0
IsBusHistory plan history = IsHistoryAfter plan [] history
