-- What it takes to bind a device (Linux driver-api, "Device links"): the device, its suppliers, theirs, and so on.
-- A set of devices is a test on their numbers.
use Rattle.std.specs.Prelude.{◌≡◌, ℕ, Bool, true, List, All}
use Rattle.bus_plan.specs.Plan.{PlannedDevice, suppliers_of}

-- each device of the set has its suppliers in it
abbrev pub HasSuppliers : List PlannedDevice → (ℕ → Bool) → Type 0
HasSuppliers plan set = (d : ℕ) → set d ≡ true → All (λ s. set s ≡ true) (suppliers_of plan d)

-- what is in each such set that has the device
abbrev pub Takes : List PlannedDevice → ℕ → ℕ → Type 0
Takes plan device d = (set : ℕ → Bool) → set device ≡ true → HasSuppliers plan set → set d ≡ true
