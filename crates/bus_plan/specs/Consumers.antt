-- Who waits for whom: a device's consumers are the other end of its device links (Linux driver-api, "Device links").
use Rattle.std.specs.Prelude.{ℕ, Bool, ◌==◌, List, length, filter}
use Rattle.std.specs.List.{list_any, range_with_len}
use Rattle.bus_plan.specs.Plan.{PlannedDevice, suppliers_of}

-- the devices of a plan, in its order
abbrev pub devices : List PlannedDevice → List ℕ
devices plan = range_with_len 0 (length plan)

abbrev pub has_supplier : List PlannedDevice → ℕ → ℕ → Bool
has_supplier plan c d = list_any (λ s. s == d) (suppliers_of plan c)

-- the devices that have this one among their suppliers, each once, in the plan's order
abbrev pub consumers_of : List PlannedDevice → ℕ → List ℕ
consumers_of plan d = filter (λ c. has_supplier plan c d) (devices plan)
