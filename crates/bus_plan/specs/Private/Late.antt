-- How the devices that a late driver matches get it.
use Rattle.std.specs.Prelude.{ℕ, List, [], ◌∷◌, slice_set}
use Rattle.bus_plan.specs.declared.late_driver.Gain.{Gain}
use Rattle.bus_plan.specs.LateDriver.{driven_by}
use Rattle.bus_plan.specs.Plan.{PlannedDevice, planned}

-- a device with the name that it gets
abbrev pub gain_of : List ℕ → ℕ → Gain
gain_of name d = record { device = d; name = name }

-- the plan in which these devices have what they gain
abbrev pub given : List PlannedDevice → List Gain → List PlannedDevice
given plan [] = plan
given plan (gain ∷ gains) = given (slice_set plan gain.device (driven_by gain.name (planned plan gain.device))) gains
