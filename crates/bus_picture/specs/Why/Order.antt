-- An order in which devices can be bound one after the other.
use Rattle.std.specs.Prelude.{◌≡◌, ◌⊎◌, ◌↔◌, ℕ, ◌<◌, ◌+◌, ◌==◌, List, All, length, take, slice_index, count_by}
use Rattle.bus_plan.specs.Plan.{PlannedDevice, suppliers_of}
use Rattle.bus_plan.specs.Reach.Takes.{Takes}

-- how often a device stands in a list
abbrev pub times : ℕ → List ℕ → ℕ
times d list = count_by (λ e. e == d) list

-- each stands behind its suppliers, but for those of a cycle, which take the device in turn
abbrev pub AreBehindSuppliers : List PlannedDevice → List ℕ → Type 0
AreBehindSuppliers plan order =
    (i : ℕ) → i < length order
    → All (λ s. (0 < times s (take i order)) ⊎ Takes plan s (slice_index order i)) (suppliers_of plan (slice_index order i))

-- all that it takes to bind the device, each once, in an order that works, and last the device
pub record IsOrderFor (plan : List PlannedDevice) (device : ℕ) (order : List ℕ) : Type 0 where
  pub exact : (d : ℕ) → (times d order ≡ 1) ↔ Takes plan device d
  pub once : (d : ℕ) → times d order < 2
  pub behind : AreBehindSuppliers plan order
  pub last : (before : ℕ) → length order ≡ before + 1 → slice_index order before ≡ device
