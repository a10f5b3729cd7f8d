-- A walk from a device, one way, within the devices of its class: those that were found have its stamp.
use Rattle.std.specs.Prelude.{◌≡◌, ◌⊎◌, ℕ, ◌<◌, true, not, ◌||◌, ◌==◌, if◌then◌else◌, List, [], ◌∷◌, ◌++◌, length, take, slice_index, count_by}
use Rattle.bus_plan.specs.Plan.{PlannedDevice}
use Rattle.bus_plan.specs.declared.reach.direction.Direction.{Direction}
use Rattle.bus_plan.specs.Reach.Reached.{is_in, next, Follows}

abbrev pub class_of : List ℕ → ℕ → ℕ
class_of classes d = slice_index classes d

-- the devices found, and one more where it is new and of this class
abbrev pub with_device : List ℕ → ℕ → List ℕ → ℕ → List ℕ
with_device classes class found d = if is_in found d || not (class_of classes d == class) then found else found ++ d ∷ []

abbrev pub with_devices : List ℕ → ℕ → List ℕ → List ℕ → List ℕ
with_devices classes class found [] = found
with_devices classes class found (d ∷ ds) = with_devices classes class (with_device classes class found d) ds

-- those that were found are those with the stamp
abbrev pub AreStamped : ℕ → List ℕ → List ℕ → Type 0
AreStamped stamp stamps found = (d : ℕ) → d < length stamps → (slice_index stamps d == stamp) ≡ is_in found d

-- each stamp is that of before, or this one
abbrev pub OnlyStamps : ℕ → List ℕ → List ℕ → Type 0
OnlyStamps stamp before after = (d : ℕ) → (slice_index after d ≡ stamp) ⊎ (slice_index after d ≡ slice_index before d)

-- how many devices lack the stamp
abbrev pub unstamped : ℕ → List ℕ → ℕ
unstamped stamp stamps = count_by (λ s. not (s == stamp)) stamps

-- a device of the class that follows the one where the walk began
abbrev pub IsMet : Direction → List PlannedDevice → List ℕ → ℕ → ℕ → Type 0
IsMet direction plan classes root d = (d < length plan) × (class_of classes d ≡ class_of classes root) × Follows direction plan root d

-- all that is next to a device and of the class was found
abbrev pub IsClosed : Direction → List PlannedDevice → List ℕ → ℕ → List ℕ → ℕ → Type 0
IsClosed direction plan classes root found d =
    (n : ℕ) → is_in (next direction plan d) n ≡ true → class_of classes n ≡ class_of classes root → is_in found n ≡ true

-- a walk that has gone on from so many of the devices that it found
pub record IsUnderway (direction : Direction) (plan : List PlannedDevice) (classes : List ℕ) (root : ℕ) (found : List ℕ) (at : ℕ) : Type 0 where
  pub began : is_in found root ≡ true
  pub each : (d : ℕ) → is_in found d ≡ true → IsMet direction plan classes root d
  pub closed : (d : ℕ) → is_in (take at found) d ≡ true → IsClosed direction plan classes root found d

-- a walk at its end
pub record IsWalked (direction : Direction) (plan : List PlannedDevice) (classes : List ℕ) (root : ℕ) (found : List ℕ) : Type 0 where
  pub began : is_in found root ≡ true
  pub each : (d : ℕ) → is_in found d ≡ true → IsMet direction plan classes root d
  pub closed : (d : ℕ) → is_in found d ≡ true → IsClosed direction plan classes root found d
