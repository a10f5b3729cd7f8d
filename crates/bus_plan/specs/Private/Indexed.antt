-- What a plan keeps besides its devices.
use Rattle.std.specs.Prelude.{◌≡◌, ℕ, List, map}
use Rattle.bus_plan.specs.Consumers.{devices, consumers_of}
use Rattle.bus_plan.specs.LateDriver.{is_known}
use Rattle.bus_plan.specs.Plan.{PlannedDevice, IsLawful, paths}
use Rattle.bus_plan.specs.PlanPaths.{is_among}
use Rattle.bus_plan.specs.Private.Waiting.{WaitingDevices, AreListed}

-- the names are those of the drivers that its devices have
abbrev pub AreDrivers : List PlannedDevice → List (List ℕ) → Type 0
AreDrivers plan names = (name : List ℕ) → is_among name names ≡ is_known plan name

-- the plan is lawful, the index has its paths and the lists have the consumers of its devices, both in its order; the
-- names are those of its drivers, and the devices that wait for one are listed by their strings
pub record IsIndexed (plan : List PlannedDevice) (index consumers names : List (List ℕ)) (waiting : WaitingDevices)
    : Type 0 where
  pub lawful : IsLawful plan
  pub agrees : index ≡ paths plan
  pub gathered : consumers ≡ map (consumers_of plan) (devices plan)
  pub drivers : AreDrivers plan names
  pub listed : AreListed plan waiting
