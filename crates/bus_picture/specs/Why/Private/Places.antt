-- Where the devices of a chain stand in it.
use Rattle.std.specs.Prelude.{◌≡◌, ℕ, ◌<◌, ◌≤◌, Bool, List, [], Option, Some, None, length, slice_index}
use Rattle.std.specs.List.{slice_index_or}
use Rattle.bus_plan.specs.Plan.{PlannedDevice}
use Rattle.bus_picture.specs.Why.Chain.{WaitsFor, IsEnd, ClosesCycle}
use Rattle.bus_picture.specs.declared.why.hold.Hold.{Hold}
use Rattle.bus_picture.specs.declared.why.hold.Hold.TheVariants.{Waits, Ends}

-- what keeps a device: the supplier that it waits for, or what it is
abbrev pub IsHold : List PlannedDevice → (ℕ → Bool) → ℕ → Hold → Type 0
IsHold plan bound d (Waits s) = WaitsFor plan bound d s × (s < length plan)
IsHold plan bound d (Ends why) = IsEnd plan bound d why × ClosesCycle [] why

abbrev pub place_of : List (Option ℕ) → ℕ → Option ℕ
place_of places d = slice_index_or places d None

-- no device has a place
abbrev pub AreClear : List (Option ℕ) → Type 0
AreClear places = (d : ℕ) → place_of places d ≡ None

-- a device's place is where it stands, at or behind this one
abbrev pub AreFrom : ℕ → List (Option ℕ) → List ℕ → Type 0
AreFrom low places chain = (d i : ℕ) → place_of places d ≡ Some i → (low ≤ i) × (i < length chain) × (slice_index chain i ≡ d)
