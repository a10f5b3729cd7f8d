-- The devices that a device takes, or that take it.
use Rattle.std.specs.Prelude.{◌≡◌, ◌↔◌, ℕ, Bool, true, ◌==◌, List}
use Rattle.std.specs.List.{list_any}
use Rattle.bus_plan.specs.Plan.{PlannedDevice, suppliers_of}
use Rattle.bus_plan.specs.Consumers.{consumers_of}
use Rattle.bus_plan.specs.declared.reach.direction.Direction.{Direction}
use Rattle.bus_plan.specs.declared.reach.direction.Direction.TheVariants.{Suppliers, Consumers}
use Rattle.bus_plan.specs.Reach.Takes.{Takes}

-- a device stands in a list
abbrev pub is_in : List ℕ → ℕ → Bool
is_in list d = list_any (λ e. e == d) list

-- the devices next to one in a direction
abbrev pub next : Direction → List PlannedDevice → ℕ → List ℕ
next Suppliers plan d = suppliers_of plan d
next Consumers plan d = consumers_of plan d

-- towards the suppliers stands what the device takes, towards the consumers what takes the device
abbrev pub Follows : Direction → List PlannedDevice → ℕ → ℕ → Type 0
Follows Suppliers plan device d = Takes plan device d
Follows Consumers plan device d = Takes plan d device

-- the devices that follow in a direction, no others
abbrev pub AreFollowers : Direction → List PlannedDevice → ℕ → List ℕ → Type 0
AreFollowers direction plan device found = (d : ℕ) → (is_in found d ≡ true) ↔ Follows direction plan device d
