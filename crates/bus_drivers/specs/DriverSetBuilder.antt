-- What is true of a driver set while its file is read.
use Rattle.std.specs.Prelude.{◌≡◌, ℕ, true, List}
use Rattle.std.specs.List.{list_all}
use Rattle.bus_plan.specs.Plan.{is_driver_name}
use Rattle.bus_plan.specs.PlanPaths.{are_distinct}
use Rattle.bus_drivers.specs.Driver.{DriverData, driver_names}

-- the index has the names, which are lawful and differ
pub record IsDriverSetBuilder (drivers : List DriverData) (names : List (List ℕ)) : Type 0 where
  pub indexed : names ≡ driver_names drivers
  pub named : list_all is_driver_name (driver_names drivers) ≡ true
  pub distinct : are_distinct (driver_names drivers) ≡ true
