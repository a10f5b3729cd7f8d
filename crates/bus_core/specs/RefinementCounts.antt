-- What a core keeps so that it need not walk the plan: how many suppliers of each device aren't bound, which devices are
-- due, and how many flights are open. No public clause cites it.
use Rattle.std.specs.Prelude.{◌≡◌, ◌<◌, ◌-◌, ◌==◌, ℕ, Bool, false, not, ◌&&◌, if◌then◌else◌, is_some, List, length, map, slice_index_or, count_by}
use Rattle.bus_plan.specs.Consumers.{has_supplier}
use Rattle.bus_plan.specs.Plan.{PlannedDevice, is_matched, suppliers_of}
use Rattle.bus_core.specs.declared.phase.Phase.{Phase}
use Rattle.bus_core.specs.CoreState.{CoreState}
use Rattle.bus_core.specs.Due.{is_due, devices}
use Rattle.bus_core.specs.History.{bound_in}
use Rattle.bus_core.specs.RefinementPhase.{phase_at, due_in}

-- how many suppliers each device has
abbrev pub supplier_counts : List PlannedDevice → List ℕ
supplier_counts plan = map (λ d. length (suppliers_of plan d)) (devices plan)

-- how many suppliers of a device aren't in the set
abbrev pub missing_count : List PlannedDevice → (ℕ → Bool) → ℕ → ℕ
missing_count plan bound d = count_by (λ s. not (bound s)) (suppliers_of plan d)

pub record IsCounted (plan : List PlannedDevice) (s : CoreState) (missing : List ℕ) (due : List Bool) (flights : ℕ) : Type 0 where
  pub missing_long : length missing ≡ length plan
  pub missing_is : (d : ℕ) → slice_index_or missing d 0 ≡ missing_count plan (bound_in s.history) d
  pub due_long : length due ≡ length plan
  pub due_is : (d : ℕ) → slice_index_or due d false ≡ is_due plan s d
  pub flights_is : flights ≡ count_by is_some s.flights

-- whether a device in this phase is due that waits for so many suppliers
abbrev pub due_with : List PlannedDevice → ℕ → Phase → ℕ → Bool
due_with plan d phase missing = due_in phase (is_matched plan d) (is_matched plan d && missing == 0)

-- each device of the plan is marked as due or not, by its phase and by what it waits for
abbrev pub AreMarked : List PlannedDevice → List Phase → List ℕ → List Bool → Type 0
AreMarked plan phases missing due =
    (d : ℕ) → d < length plan
    → slice_index_or due d false ≡ due_with plan d (phase_at phases d) (slice_index_or missing d 0)

-- a supplier more is bound: each of its consumers waits for one less
abbrev pub AreLowered : List PlannedDevice → ℕ → List ℕ → List ℕ → Type 0
AreLowered plan supplier old new =
    (d : ℕ) → slice_index_or new d 0
    ≡ (if has_supplier plan d supplier then slice_index_or old d 0 - 1 else slice_index_or old d 0)

-- and it is due or not by what is left, while every other device is due as before
abbrev pub AreMarkedAfter : List PlannedDevice → List Phase → List ℕ → ℕ → List Bool → List Bool → Type 0
AreMarkedAfter plan phases missing supplier old new =
    (d : ℕ) → slice_index_or new d false
    ≡ (if has_supplier plan d supplier then due_with plan d (phase_at phases d) (slice_index_or missing d 0)
    else slice_index_or old d false)
