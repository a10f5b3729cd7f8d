-- When a driver's probe of a device can end well (Linux driver-api, deferred probing): the device is there, a driver
-- matches it, and each of its suppliers is bound. A set of devices is a test on their numbers.
use Rattle.std.specs.Prelude.{ℕ, Bool, ◌&&◌, List}
use Rattle.std.specs.List.{list_all}
use Rattle.bus_plan.specs.Plan.{PlannedDevice, is_matched, suppliers_of}

abbrev pub is_ready : List PlannedDevice → (ℕ → Bool) → ℕ → Bool
is_ready plan bound d = is_matched plan d && list_all bound (suppliers_of plan d)
