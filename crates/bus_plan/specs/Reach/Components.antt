-- The cycles of a plan: devices lie in one where each takes the other (Linux driver-api, "Device links": no cycle of links is kept).
use Rattle.std.specs.Prelude.{◌≡◌, ◌↔◌, ℕ, ◌<◌, List, length, slice_index}
use Rattle.bus_plan.specs.Plan.{PlannedDevice}
use Rattle.bus_plan.specs.Reach.Takes.{Takes}

abbrev pub TakeEachOther : List PlannedDevice → ℕ → ℕ → Type 0
TakeEachOther plan a b = Takes plan a b × Takes plan b a

-- the number of a device's component
abbrev pub component_of : List ℕ → ℕ → ℕ
component_of components d = slice_index components d

-- each device has a component; two devices have one component exactly where they take each other
pub record AreComponents (plan : List PlannedDevice) (components : List ℕ) : Type 0 where
  pub long : length components ≡ length plan
  pub same : (a b : ℕ) → a < length plan → b < length plan → (component_of components a ≡ component_of components b) ↔ TakeEachOther plan a b
