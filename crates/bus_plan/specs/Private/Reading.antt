-- How the lines of a plan file are read one by one.
use Rattle.std.specs.Prelude.{◌≡◌, ◌⊎◌, ℕ, nat_lt, if◌then◌else◌, List, [], ◌∷◌, map, Option, Some, None, unwrap_or}
use Rattle.std.specs.Option.{option_or}
use Rattle.bus_plan.specs.declared.error.PlanError.{PlanError}
use Rattle.bus_plan.specs.declared.error.PlanError.TheVariants.{NoMemory}
use Rattle.bus_plan.specs.Plan.{PlannedDevice}
use Rattle.bus_plan.specs.PlanError.{line_of}
use Rattle.bus_plan.specs.PlanLines.{DeviceLine, StringsLine}
use Rattle.bus_plan.specs.PlanPaths.{place_of}
use Rattle.bus_plan.specs.PlanFile.{devices_before, strings_before, faults_before, line_paths, unknown_of, misfit_of}

-- the devices and the lists of strings of some lines
pub record Listed : Type 0 where
  pub devices : List DeviceLine
  pub lists : List StringsLine

abbrev pub listed_before : List (List ℕ) → ℕ → Listed
listed_before ls n = record { devices = devices_before ls n; lists = strings_before ls n }

-- why a line or a file isn't taken: by this test, or because memory was refused
abbrev pub IsRefused : Option PlanError → PlanError → Type 0
IsRefused right e = (e ≡ NoMemory) ⊎ (right ≡ Some e)

-- they are those of some lines without a fault
abbrev pub IsFaultless : Listed → Type 0
IsFaultless listed = (ls : List (List ℕ)) × (n : ℕ) × (listed ≡ listed_before ls n) × (faults_before ls n ≡ [])

-- the list begins with it
abbrev pub IsFirst : List PlanError → PlanError → Type 0
IsFirst faults e = (more : List PlanError) × (faults ≡ e ∷ more)

-- ---- what is found once all devices are known
-- the first line with a supplier that is none of these paths
abbrev pub first_unknown : List (List ℕ) → List DeviceLine → Option PlanError
first_unknown known [] = None
first_unknown known (d ∷ ds) = option_or (unknown_of known d) (first_unknown known ds)

-- the first with strings that no device may have
abbrev pub first_misfit : List DeviceLine → List StringsLine → Option PlanError
first_misfit devices [] = None
first_misfit devices (s ∷ more) = option_or (misfit_of devices s) (first_misfit devices more)

abbrev pub line_or_zero : PlanError → ℕ
line_or_zero e = unwrap_or (line_of e) 0

-- the one whose line stands first
abbrev pub earlier : Option PlanError → Option PlanError → Option PlanError
earlier None other = other
earlier (Some a) None = Some a
earlier (Some a) (Some b) = if nat_lt (line_or_zero b) (line_or_zero a) then Some b else Some a

abbrev pub late_fault : Listed → Option PlanError
late_fault l = earlier (first_unknown (line_paths l.devices) l.devices) (first_misfit l.devices l.lists)

-- the device with these strings, its suppliers found among these paths
abbrev pub planned_with : List (List ℕ) → DeviceLine → List (List ℕ) → PlannedDevice
planned_with known d strings = record {
  path = d.path;
  available = d.matching.available;
  driver = d.matching.driver;
  verdict = d.matching.verdict;
  suppliers = map (place_of known) d.suppliers;
  compatibles = strings;
}
