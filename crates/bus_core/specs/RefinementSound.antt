-- What holds of the parts of a core: the phases tell what the history says, and there is room for each settle to come.
-- No public clause cites it.
use Rattle.std.specs.Prelude.{◌≡◌, ◌≤◌, ◌+◌, ℕ, Bool, not, List, length, take, count_by}
use Rattle.bus_plan.specs.Plan.{PlannedDevice}
use Rattle.bus_core.specs.declared.phase.Phase.{Phase}
use Rattle.bus_core.specs.declared.settle.Settle.{Settle}
use Rattle.bus_core.specs.declared.limits.TheConstants.{MAX_BEGINS}
use Rattle.bus_core.specs.History.{IsBusHistory, bound_in, is_settled}
use Rattle.bus_core.specs.RefinementPhase.{phase_at, bound_before, bound_now, settled_in}

abbrev pub unsettled_in : Phase → Bool
unsettled_in phase = not (settled_in phase)

pub record IsSound (plan : List PlannedDevice) (phases : List Phase) (history : List Settle) (begins : ℕ) : Type 0 where
  pub places : length phases ≡ length plan
  pub before : (n d : ℕ) → bound_in (take n history) d ≡ bound_before n (phase_at phases d)
  pub bound : (d : ℕ) → bound_in history d ≡ bound_now (phase_at phases d)
  pub settled : (d : ℕ) → is_settled history d ≡ settled_in (phase_at phases d)
  pub lawful : IsBusHistory plan history
  pub limit : begins ≤ MAX_BEGINS
  pub unsettled : length history + count_by unsettled_in phases ≡ length plan
