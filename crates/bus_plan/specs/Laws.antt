-- Laws of plans and their files.
use Rattle.std.specs.Prelude.{◌≡◌, ℕ, true, List, Ok, is_some}
use Rattle.bus_plan.specs.LateDriver.{with_driver}
use Rattle.bus_plan.specs.Plan.{PlannedDevice, IsLawful, path_of, is_available, driver_of, verdict_of, suppliers_of, is_driver_name}
use Rattle.bus_plan.specs.PlanFile.{reading}
use Rattle.bus_plan.specs.PlanText.{text_of}

-- the text of a plan is read as the same plan
abbrev pub PlanTextIsReadBack : Type 0
PlanTextIsReadBack = (plan : List PlannedDevice) → IsLawful plan → reading (text_of plan) ≡ Ok plan

-- a plan stays lawful when a driver comes late
abbrev pub LateDriverIsLawful : Type 0
LateDriverIsLawful =
    (plan : List PlannedDevice) (name : List ℕ) (strings : List (List ℕ)) → IsLawful plan → is_driver_name name ≡ true
    → IsLawful (with_driver plan name strings)

-- what a late driver leaves of a device: all but that one without a driver may have got it
pub record IsKept (old new : List PlannedDevice) (d : ℕ) : Type 0 where
  pub path : path_of new d ≡ path_of old d
  pub available : is_available new d ≡ is_available old d
  pub suppliers : suppliers_of new d ≡ suppliers_of old d
  pub driver : is_some (driver_of old d) ≡ true → driver_of new d ≡ driver_of old d
  pub verdict : is_some (driver_of old d) ≡ true → verdict_of new d ≡ verdict_of old d

abbrev pub LateDriverKeeps : Type 0
LateDriverKeeps =
    (plan : List PlannedDevice) (name : List ℕ) (strings : List (List ℕ)) (d : ℕ) → IsKept plan (with_driver plan name strings) d
