-- A driver that comes late, as when its module is loaded: the devices that have waited for one get it
-- (Linux driver-api, "The Linux Kernel Device Model": a driver that is registered is tried with each device without one).
use Rattle.std.specs.Prelude.{ℕ, Bool, ◌&&◌, false, if◌then◌else◌, List, [], map, filter, length, Some, is_none}
use Rattle.std.specs.Option.{option_map_or}
use Rattle.std.specs.List.{list_any}
use Rattle.std.specs.Str.{bytes_eq}
use Rattle.bus_plan.specs.declared.verdict.Verdict.TheVariants.{Binds}
use Rattle.bus_plan.specs.Plan.{PlannedDevice}
use Rattle.bus_plan.specs.PlanPaths.{is_among}

-- an available device without a driver gets the one that lists one of its strings
abbrev pub gets_driver : PlannedDevice → List (List ℕ) → Bool
gets_driver d strings = (d.available && is_none d.driver) && list_any (λ string. is_among string strings) d.compatibles

-- the device with a driver, whose verdict is ok; it waits for no other
abbrev pub driven_by : List ℕ → PlannedDevice → PlannedDevice
driven_by name d = record {
  path = d.path;
  available = d.available;
  driver = Some name;
  verdict = Binds;
  suppliers = d.suppliers;
  compatibles = [];
}

-- a device once the driver of this name, which lists these strings, is there
abbrev pub device_with : List ℕ → List (List ℕ) → PlannedDevice → PlannedDevice
device_with name strings d = if gets_driver d strings then driven_by name d else d

-- the plan with this driver: all other devices stay
abbrev pub with_driver : List PlannedDevice → List ℕ → List (List ℕ) → List PlannedDevice
with_driver plan name strings = map (device_with name strings) plan

-- how many devices get it
abbrev pub gaining : List PlannedDevice → List (List ℕ) → ℕ
gaining plan strings = length (filter (λ d. gets_driver d strings) plan)

abbrev pub has_driver : List ℕ → PlannedDevice → Bool
has_driver name d = option_map_or (bytes_eq name) d.driver false

-- some device has a driver of this name
abbrev pub is_known : List PlannedDevice → List ℕ → Bool
is_known plan name = list_any (has_driver name) plan
