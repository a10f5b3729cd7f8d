-- A driver set as contracts see it: drivers with the strings that they match, and the devices that shall fail
-- (Linux driver-api, "The Linux Kernel Device Model": a driver's table of `compatible` strings).
use Rattle.std.specs.Prelude.{◌≡◌, ℕ, true, List, map}
use Rattle.std.specs.List.{list_all}
use Rattle.bus_plan.specs.Plan.{is_driver_name}
use Rattle.bus_plan.specs.PlanPaths.{are_distinct}

pub record DriverData : Type 0 where
  pub name : List ℕ
  pub compatibles : List (List ℕ)

-- the device at the path has verdict fail; the line, from 1, says so
pub record FailData : Type 0 where
  pub path : List ℕ
  pub line : ℕ

pub record DriverSetData : Type 0 where
  pub drivers : List DriverData
  pub fails : List FailData

abbrev pub driver_names : List DriverData → List (List ℕ)
driver_names drivers = map (λ d. d.name) drivers

-- what is true of each driver set: its names differ and none is `-`
pub record IsDriverSet (set : DriverSetData) : Type 0 where
  pub named : list_all is_driver_name (driver_names set.drivers) ≡ true
  pub distinct : are_distinct (driver_names set.drivers) ≡ true
