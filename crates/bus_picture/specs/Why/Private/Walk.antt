-- What holds of a walk to suppliers at each of its steps.
use Rattle.std.specs.Prelude.{◌≡◌, ℕ, ◌+◌, ◌-◌, ◌<◌, ◌≤◌, Bool, true, false, if◌then◌else◌, List, [], ◌∷◌, ◌++◌, All, length, slice_index, slice_set}
use Rattle.std.specs.List.{slice_index_or}
use Rattle.bus_plan.specs.Plan.{PlannedDevice, suppliers_of}
use Rattle.bus_picture.specs.declared.why.walk.Walk.{Walk}
use Rattle.bus_plan.specs.Reach.Takes.{Takes}
use Rattle.bus_picture.specs.Why.Order.{times, AreBehindSuppliers}

-- what is entered is left or on the path, once; the path leads from each of its devices to those behind it; a supplier that the walk
-- went to is entered, and so is each of a device that was left
pub record IsSound (plan : List PlannedDevice) (entered : List Bool) (gone path left : List ℕ) : Type 0 where
  pub entered_long : length entered ≡ length plan
  pub gone_long : length gone ≡ length plan
  pub placed : (d : ℕ) → times d left + times d path ≡ (if slice_index_or entered d false then 1 else 0)
  pub above : (i j : ℕ) → i ≤ j → j < length path → Takes plan (slice_index path i) (slice_index path j)
  pub went : (d k : ℕ) → k < slice_index gone d → slice_index_or entered (slice_index (suppliers_of plan d) k) false ≡ true
  pub followed : (d : ℕ) → 0 < times d left → All (λ s. slice_index_or entered s false ≡ true) (suppliers_of plan d)
  pub behind : AreBehindSuppliers plan left

-- it began at the device, and enters only what that takes
pub record IsFrom (plan : List PlannedDevice) (device : ℕ) (entered : List Bool) (path left : List ℕ) : Type 0 where
  pub began : slice_index_or entered device false ≡ true
  pub taken : (d : ℕ) → slice_index_or entered d false ≡ true → Takes plan device d
  pub first : 0 < length path → slice_index path 0 ≡ device
  pub last : length path ≡ 0 → (before : ℕ) → length left ≡ before + 1 → slice_index left before ≡ device

abbrev pub IsSoundWalk : List PlannedDevice → Walk → Type 0
IsSoundWalk plan walk = IsSound plan walk.entered.items walk.gone.items walk.path.items walk.left.items

abbrev pub IsWalkFrom : List PlannedDevice → ℕ → Walk → Type 0
IsWalkFrom plan device walk = IsFrom plan device walk.entered.items walk.path.items walk.left.items

-- how many suppliers the walk has still to go to
abbrev pub ungone : List PlannedDevice → List ℕ → ℕ
ungone [] gone = 0
ungone (d ∷ ds) [] = 0
ungone (d ∷ ds) (n ∷ ns) = (length d.suppliers - n) + ungone ds ns

-- falls with each step
abbrev pub steps_left : List PlannedDevice → Walk → ℕ
steps_left plan walk = (ungone plan walk.gone.items + ungone plan walk.gone.items) + length walk.path.items

-- a step to a supplier, which is entered where it wasn't
pub record IsGone (old new : Walk) (device supplier : ℕ) : Type 0 where
  pub gone : new.gone.items ≡ slice_set old.gone.items device (slice_index old.gone.items device + 1)
  pub left : new.left.items ≡ old.left.items
  pub entered : new.entered.items ≡ (if slice_index_or old.entered.items supplier false then old.entered.items else slice_set old.entered.items supplier true)
  pub path : new.path.items ≡ (if slice_index_or old.entered.items supplier false then old.path.items else old.path.items ++ supplier ∷ [])

-- a step back
pub record IsLeft (old new : Walk) (device : ℕ) : Type 0 where
  pub gone : new.gone.items ≡ old.gone.items
  pub left : new.left.items ≡ old.left.items ++ device ∷ []
  pub entered : new.entered.items ≡ old.entered.items
  pub path : old.path.items ≡ new.path.items ++ device ∷ []
