-- Why a device waits (Linux driver-api, deferred probing): the chain from it to the cause, supplier by supplier. What is bound is a test on
-- the numbers of devices.
use Rattle.std.specs.Prelude.{◌≡◌, ◌≢◌, ℕ, Bool, true, false, ◌+◌, ◌-◌, ◌<◌, List, All, Some, length, map, filter, slice_index}
use Rattle.std.specs.List.{slice_index_or}
use Rattle.bus_plan.specs.Plan.{PlannedDevice}
use Rattle.bus_core.specs.declared.status.Status.{Status}
use Rattle.bus_core.specs.declared.status.Status.TheVariants as status
use Rattle.bus_core.specs.Due.{devices}
use Rattle.bus_core.specs.Report.{end_status, missing_supplier}
use Rattle.bus_picture.specs.declared.why.chain.Chain.{Chain}
use Rattle.bus_picture.specs.declared.why.hold.Cause.{Cause}
use Rattle.bus_picture.specs.declared.why.hold.Cause.TheVariants as cause

-- whether each device is bound, in the plan's order
abbrev pub bound_by : List Bool → ℕ → Bool
bound_by bound d = slice_index_or bound d false

-- what a device is where it doesn't wait
abbrev pub IsEnd : List PlannedDevice → (ℕ → Bool) → ℕ → Cause → Type 0
IsEnd plan bound d cause.Bound = end_status plan bound d ≡ status.Bound
IsEnd plan bound d cause.Failed = end_status plan bound d ≡ status.Failed
IsEnd plan bound d cause.Unmatched = end_status plan bound d ≡ status.Unmatched
IsEnd plan bound d cause.Disabled = end_status plan bound d ≡ status.Disabled
IsEnd plan bound d (cause.Cycle place) = Unit {0}

-- a chain closes a cycle where its last device stands at a place before
abbrev pub ClosesCycle : List ℕ → Cause → Type 0
ClosesCycle chain (cause.Cycle place) = (place + 1 < length chain) × (slice_index chain place ≡ slice_index chain (length chain - 1))
ClosesCycle chain cause.Bound = Unit {0}
ClosesCycle chain cause.Failed = Unit {0}
ClosesCycle chain cause.Unmatched = Unit {0}
ClosesCycle chain cause.Disabled = Unit {0}

-- a device waits, and this is the first of its suppliers that isn't bound
abbrev pub WaitsFor : List PlannedDevice → (ℕ → Bool) → ℕ → ℕ → Type 0
WaitsFor plan bound d s = (end_status plan bound d ≡ status.Waiting) × (missing_supplier plan bound d ≡ Some s)

-- it begins with the device; each but the last waits for the next, none twice; the last waits for none, or it closes a cycle
pub record IsChain (plan : List PlannedDevice) (bound : ℕ → Bool) (device : ℕ) (chain : List ℕ) (why : Cause) : Type 0 where
  pub some : 0 < length chain
  pub first : slice_index chain 0 ≡ device
  pub hops : (i : ℕ) → i + 1 < length chain → WaitsFor plan bound (slice_index chain i) (slice_index chain (i + 1))
  pub once : (i j : ℕ) → i < j → j + 1 < length chain → slice_index chain i ≢ slice_index chain j
  pub ends : IsEnd plan bound (slice_index chain (length chain - 1)) why
  pub closes : ClosesCycle chain why

abbrev pub first_of : Chain → ℕ
first_of chain = slice_index chain.devices.items 0

abbrev pub IsChainOf : List PlannedDevice → (ℕ → Bool) → Chain → Type 0
IsChainOf plan bound chain = IsChain plan bound (first_of chain) chain.devices.items chain.cause

abbrev pub is_waiting : Status → Bool
is_waiting status.Waiting = true
is_waiting status.Bound = false
is_waiting status.Failed = false
is_waiting status.Probing = false
is_waiting status.Due = false
is_waiting status.Unmatched = false
is_waiting status.Disabled = false

-- whether the end report has the device neither bound nor failed nor disabled nor unmatched
abbrev pub waits : List PlannedDevice → (ℕ → Bool) → ℕ → Bool
waits plan bound d = is_waiting (end_status plan bound d)

-- the chains of the devices that wait, in the plan's order
pub record AreChains (plan : List PlannedDevice) (bound : ℕ → Bool) (chains : List Chain) : Type 0 where
  pub listed : map first_of chains ≡ filter (waits plan bound) (devices plan)
  pub each : All (IsChainOf plan bound) chains
