-- The devices that wait for a driver, by their strings.
use Rattle.std.specs.Prelude.{◌≡◌, ℕ, Bool, ◌&&◌, List, [], is_none}
use Rattle.std.specs.List.{list_any, slice_index_or}
use Rattle.bus_plan.specs.Plan.{PlannedDevice, planned, compatibles_of}
use Rattle.bus_plan.specs.PlanPaths.{is_among, place_of}
use Rattle.bus_plan.specs.Private.Places.{is_in}

-- strings, and a list of devices for each
pub record WaitingDevices : Type 0 where
  pub strings : List (List ℕ)
  pub lists : List (List ℕ)

-- those of a string: none, where it isn't there
abbrev pub listed_by : WaitingDevices → List ℕ → List ℕ
listed_by w s = slice_index_or w.lists (place_of w.strings s) []

-- a device that is listed by one of these strings
abbrev pub is_listed : WaitingDevices → List (List ℕ) → ℕ → Bool
is_listed w strings d = list_any (λ s. is_in d (listed_by w s)) strings

-- or stands in a list at one of these places
abbrev pub stands_at : WaitingDevices → List ℕ → ℕ → Bool
stands_at w places d = list_any (λ place. is_in d (slice_index_or w.lists place [])) places

-- it is available and has no driver
abbrev pub is_unmatched : PlannedDevice → Bool
is_unmatched d = d.available && is_none d.driver

-- of the devices that are listed by a string those that have no driver by now are those that have the string
abbrev pub AreListed : List PlannedDevice → WaitingDevices → Type 0
AreListed plan w =
    (d : ℕ) (s : List ℕ) → (is_in d (listed_by w s) && is_unmatched (planned plan d)) ≡ is_among s (compatibles_of plan d)
