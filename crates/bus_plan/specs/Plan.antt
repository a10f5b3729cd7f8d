-- A plan as contracts see it: a list of planned devices, each named by its place in the list, from 0.
-- Devices, drivers and suppliers are those of the Linux driver model (driver-api: "The Linux Kernel Device Model", "Device links").
use Rattle.std.specs.Prelude.{◌≡◌, ◌≢◌, ℕ, ◌<◌, ◌≤◌, Bool, true, false, not, ◌&&◌, nat_le, IsTrue, IfSome, List, [], ◌∷◌, map, length, All, AllPairs, Contains, position, Option, None, is_some}
use Rattle.std.specs.List.{slice_index_or, list_all}
use Rattle.std.specs.Str.{bytes_eq}
use Rattle.dt_tree.specs.Name.{is_name}
use Rattle.dt_tree.specs.Path.{is_path}
use Rattle.bus_plan.specs.declared.verdict.Verdict.{Verdict}
use Rattle.bus_plan.specs.declared.verdict.Verdict.TheVariants.{Binds}
use Rattle.bus_plan.specs.Limits.{most_devices}
use Rattle.bus_plan.specs.Lines.{is_filled}

-- a device: its path, whether it may be used, its driver, what that driver does once it is ready, the devices that it needs, and
-- the strings by which a driver that comes late may match it
pub record PlannedDevice : Type 0 where
  pub path : List ℕ
  pub available : Bool
  pub driver : Option (List ℕ)
  pub verdict : Verdict
  pub suppliers : List ℕ
  pub compatibles : List (List ℕ)

-- what stands past the end of a plan
abbrev pub nothing : PlannedDevice
nothing = record { path = []; available = false; driver = None; verdict = Binds; suppliers = []; compatibles = [] }

abbrev pub planned : List PlannedDevice → ℕ → PlannedDevice
planned plan d = slice_index_or plan d nothing

abbrev pub path_of : List PlannedDevice → ℕ → List ℕ
path_of plan d = (planned plan d).path

abbrev pub is_available : List PlannedDevice → ℕ → Bool
is_available plan d = (planned plan d).available

abbrev pub driver_of : List PlannedDevice → ℕ → Option (List ℕ)
driver_of plan d = (planned plan d).driver

abbrev pub verdict_of : List PlannedDevice → ℕ → Verdict
verdict_of plan d = (planned plan d).verdict

abbrev pub suppliers_of : List PlannedDevice → ℕ → List ℕ
suppliers_of plan d = (planned plan d).suppliers

abbrev pub compatibles_of : List PlannedDevice → ℕ → List (List ℕ)
compatibles_of plan d = (planned plan d).compatibles

-- available, with a driver
abbrev pub is_matched : List PlannedDevice → ℕ → Bool
is_matched plan d = is_available plan d && is_some (driver_of plan d)

-- the paths, in the plan's order
abbrev pub paths : List PlannedDevice → List (List ℕ)
paths plan = map (λ d. d.path) plan

-- the device at a path
abbrev pub device_at : List PlannedDevice → List ℕ → Option ℕ
device_at plan path = position (bytes_eq path) (paths plan)

-- a path other than `/`
abbrev pub is_device_path : List ℕ → Bool
is_device_path path = is_path path && not (bytes_eq path (47 ∷ []))

-- a name other than `-`
abbrev pub is_driver_name : List ℕ → Bool
is_driver_name name = is_name name && not (bytes_eq name (45 ∷ []))

-- a printing character of ASCII but for the space
abbrev pub is_string_byte : ℕ → Bool
is_string_byte b = nat_le 33 b && nat_le b 126

-- a string that a driver may list: some such bytes, and no others
abbrev pub is_compatible : List ℕ → Bool
is_compatible string = is_filled string && list_all is_string_byte string

-- what is lawful of a device by itself: only an available one without a driver has strings
pub record IsLawfulDevice (d : PlannedDevice) : Type 0 where
  pub path : IsTrue (is_device_path d.path)
  pub driver : IfSome d.driver (λ name. IsTrue (is_driver_name name))
  pub unavailable : d.available ≡ false → d.driver ≡ None
  pub unmatched : d.driver ≡ None → d.verdict ≡ Binds
  pub compatibles : list_all is_compatible d.compatibles ≡ true
  pub disabled : d.available ≡ false → d.compatibles ≡ []
  pub matched : is_some d.driver ≡ true → d.compatibles ≡ []

-- what is lawful of a plan
pub record IsLawful (plan : List PlannedDevice) : Type 0 where
  pub few : length plan ≤ most_devices
  pub devices : All IsLawfulDevice plan
  pub distinct : AllPairs (λ a b. a ≢ b) (paths plan)
  pub suppliers : (d : ℕ) → All (λ s. s < length plan) (suppliers_of plan d)
  pub apart : (d : ℕ) → AllPairs (λ a b. a ≢ b) (suppliers_of plan d)
  pub others : (d : ℕ) → ¬ Contains (suppliers_of plan d) d
