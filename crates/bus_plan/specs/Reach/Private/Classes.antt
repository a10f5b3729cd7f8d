-- Classes of devices such that no supplier stands in an earlier one.
use Rattle.std.specs.Prelude.{◌≡◌, ℕ, ◌<◌, ◌≤◌, true, List, length}
use Rattle.bus_plan.specs.Plan.{PlannedDevice, suppliers_of}
use Rattle.bus_plan.specs.Reach.Reached.{is_in}
use Rattle.bus_plan.specs.Reach.Private.Walk.{class_of}

-- of these devices
abbrev pub AreInOrderBelow : ℕ → List PlannedDevice → List ℕ → Type 0
AreInOrderBelow n plan classes = (d s : ℕ) → d < n → is_in (suppliers_of plan d) s ≡ true → class_of classes d ≤ class_of classes s

pub record AreClasses (plan : List PlannedDevice) (classes : List ℕ) : Type 0 where
  pub long : length classes ≡ length plan
  pub order : (d s : ℕ) → is_in (suppliers_of plan d) s ≡ true → class_of classes d ≤ class_of classes s
