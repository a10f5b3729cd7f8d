-- Components while they are given, device by device.
use Rattle.std.specs.Prelude.{◌≡◌, ◌↔◌, ℕ, ◌<◌, ◌≤◌, Bool, true, ◌==◌, if◌then◌else◌, List, [], ◌∷◌, length, slice_index, slice_set}
use Rattle.bus_plan.specs.Plan.{PlannedDevice}
use Rattle.bus_plan.specs.Reach.Components.{TakeEachOther, component_of}

-- a device with the stamp gets the component
abbrev pub with_component : List ℕ → ℕ → ℕ → List ℕ → ℕ → List ℕ
with_component stamps stamp component components d =
    if slice_index stamps d == stamp then slice_set components d component else components

abbrev pub with_components : List ℕ → ℕ → ℕ → List ℕ → List ℕ → List ℕ
with_components stamps stamp component components [] = components
with_components stamps stamp component components (d ∷ ds) =
    with_components stamps stamp component (with_component stamps stamp component components d) ds

-- each device and its component take each other; those before this place have theirs
pub record AreGiven (plan : List PlannedDevice) (components : List ℕ) (place : ℕ) : Type 0 where
  pub long : length components ≡ length plan
  pub sound : (d : ℕ) → d < length plan → (component_of components d < length plan) × TakeEachOther plan (component_of components d) d
  pub settled : (a b : ℕ) → a < place → a < length plan → b < length plan → TakeEachOther plan a b → component_of components b ≡ component_of components a

-- a test tells those that take the device of this place and are taken by it: they get its number, the others keep theirs
pub record IsGiven (plan : List PlannedDevice) (old new : List ℕ) (place : ℕ) : Type 0 where
  pub long : length new ≡ length old
  pub test : ℕ → Bool
  pub exact : (d : ℕ) → d < length plan → (test d ≡ true) ↔ TakeEachOther plan place d
  pub value : (d : ℕ) → d < length plan → component_of new d ≡ (if test d then place else component_of old d)

-- a stamp for each device, none greater than this
pub record AreStampsTo (most : ℕ) (plan : List PlannedDevice) (stamps : List ℕ) : Type 0 where
  pub long : length stamps ≡ length plan
  pub low : (d : ℕ) → slice_index stamps d ≤ most
