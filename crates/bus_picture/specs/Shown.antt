-- Which devices a picture shows: all, or those around a device, which are what it takes and what takes it.
use Rattle.std.specs.Prelude.{◌≡◌, ◌⊎◌, ◌↔◌, ℕ, ◌<◌, Bool, true, List, Option, Some, None, length}
use Rattle.bus_plan.specs.Plan.{PlannedDevice}
use Rattle.bus_links.specs.Links.{flag_at}
use Rattle.bus_plan.specs.Reach.Takes.{Takes}

abbrev pub IsAround : List PlannedDevice → ℕ → ℕ → Type 0
IsAround plan device d = Takes plan device d ⊎ Takes plan d device

abbrev pub AreShown : List PlannedDevice → Option ℕ → List Bool → Type 0
AreShown plan None shown = (d : ℕ) → d < length plan → flag_at shown d ≡ true
AreShown plan (Some device) shown = (d : ℕ) → d < length plan → (flag_at shown d ≡ true) ↔ IsAround plan device d
