-- A plan file: what each line says, its faults in order, and the plan that it lists.
use Rattle.std.specs.Prelude.{◌≡◌, ℕ, Bool, zero, suc, ◌+◌, true, false, ◌&&◌, ◌⊎◌, if◌then◌else◌, nat_le, codes, List, [], ◌∷◌, ◌++◌, map, length, Option, Some, None, is_none, Result, Ok, Err, MatchResult}
use Rattle.std.specs.Option.{option_map, option_map_or, option_to_list}
use Rattle.std.specs.List.{slice_index_or, list_all, find}
use Rattle.std.specs.Str.{bytes_eq}
use Rattle.bus_plan.specs.declared.error.PlanError.{PlanError}
use Rattle.bus_plan.specs.declared.error.PlanError.TheVariants.{NoMemory, BadLine, DuplicateDevice, UnknownPath, TooManyDevices}
use Rattle.bus_plan.specs.declared.matching.Matching.{Matching}
use Rattle.bus_plan.specs.declared.plan_line.PlanLine.{PlanLine}
use Rattle.bus_plan.specs.declared.plan_line.PlanLine.TheVariants.{Device, Strings}
use Rattle.bus_plan.specs.declared.verdict.Verdict.{Verdict}
use Rattle.bus_plan.specs.declared.verdict.Verdict.TheVariants.{Binds, Fails}
use Rattle.bus_plan.specs.Limits.{most_devices}
use Rattle.bus_plan.specs.PlanPaths.{is_among, are_distinct, are_known, place_of}
use Rattle.bus_plan.specs.PlanLines.{DeviceLine, StringsLine}
use Rattle.bus_plan.specs.Lines.{lines, is_line, fields, is_skipped}
use Rattle.bus_plan.specs.Plan.{PlannedDevice, is_device_path, is_driver_name}

-- ---- a line
abbrev pub driven : List ℕ → Verdict → Option Matching
driven driver verdict =
    if is_driver_name driver then Some (record { available = true; driver = Some driver; verdict = verdict }) else None

abbrev pub undriven : List ℕ → Option Matching
undriven driver =
    if bytes_eq driver (codes "-") then Some (record { available = true; driver = None; verdict = Binds })
    else (if bytes_eq driver (codes "!") then Some (record { available = false; driver = None; verdict = Binds }) else None)

-- what the second and the third field say: `DRIVER ok`, `DRIVER fail`, `- -` or `! -`
abbrev pub matching_of : List ℕ → List ℕ → Option Matching
matching_of driver word =
    if bytes_eq word (codes "ok") then driven driver Binds
    else (if bytes_eq word (codes "fail") then driven driver Fails
    else (if bytes_eq word (codes "-") then undriven driver else None))

-- each is a device's path, and no two of them and the device's own are one
abbrev pub are_supplier_paths : List ℕ → List (List ℕ) → Bool
are_supplier_paths own paths = list_all is_device_path paths && are_distinct (own ∷ paths)

-- the device of a line with these fields
abbrev pub device_of : ℕ → List (List ℕ) → Option DeviceLine
device_of number [] = None
device_of number (path ∷ []) = None
device_of number (path ∷ driver ∷ []) = None
device_of number (path ∷ driver ∷ word ∷ suppliers) =
    if is_device_path path && are_supplier_paths path suppliers
    then option_map (λ m. record { number = number; path = path; matching = m; suppliers = suppliers }) (matching_of driver word)
    else None

-- the strings of a device, by the fields behind the word `compatible`: its path and one string at least
abbrev pub strings_of : ℕ → List (List ℕ) → Option StringsLine
strings_of number [] = None
strings_of number (path ∷ []) = None
strings_of number (path ∷ string ∷ more) =
    if is_device_path path then Some (record { number = number; path = path; strings = string ∷ more }) else None

-- what a line with these fields says: `compatible PATH STRING..`, or a device
abbrev pub said_by : ℕ → List (List ℕ) → Option PlanLine
said_by number [] = None
said_by number (word ∷ more) =
    if bytes_eq word (codes "compatible") then option_map Strings (strings_of number more)
    else option_map Device (device_of number (word ∷ more))

-- a line that isn't skipped says something or is bad
abbrev pub stated : ℕ → Option PlanLine → Result (Option PlanLine) PlanError
stated number None = Err (BadLine number)
stated number (Some said) = Ok (Some said)

-- what a line says: nothing, a device, a device's strings, or that it is bad
abbrev pub meaning : ℕ → List ℕ → Result (Option PlanLine) PlanError
meaning number line =
    if is_line line then (if is_skipped (fields line) then Ok None else stated number (said_by number (fields line)))
    else Err (BadLine number)

-- ---- all lines, the n-th of them counted from 0 here
abbrev pub meaning_at : List (List ℕ) → ℕ → Result (Option PlanLine) PlanError
meaning_at ls n = meaning (n + 1) (slice_index_or ls n [])

abbrev pub device_on : Result (Option PlanLine) PlanError → Option DeviceLine
device_on (Err e) = None
device_on (Ok None) = None
device_on (Ok (Some (Device d))) = Some d
device_on (Ok (Some (Strings s))) = None

abbrev pub strings_on : Result (Option PlanLine) PlanError → Option StringsLine
strings_on (Err e) = None
strings_on (Ok None) = None
strings_on (Ok (Some (Device d))) = None
strings_on (Ok (Some (Strings s))) = Some s

-- the devices of the first n lines
abbrev pub devices_before : List (List ℕ) → ℕ → List DeviceLine
devices_before ls zero = []
devices_before ls (suc n) = devices_before ls n ++ option_to_list (device_on (meaning_at ls n))

-- and their lists of strings
abbrev pub strings_before : List (List ℕ) → ℕ → List StringsLine
strings_before ls zero = []
strings_before ls (suc n) = strings_before ls n ++ option_to_list (strings_on (meaning_at ls n))

abbrev pub line_paths : List DeviceLine → List (List ℕ)
line_paths devices = map (λ d. d.path) devices

abbrev pub strings_paths : List StringsLine → List (List ℕ)
strings_paths lists = map (λ s. s.path) lists

-- what forbids a further device: its path is there already, or as many devices as a plan may have
abbrev pub refusal_of : List DeviceLine → DeviceLine → Option PlanError
refusal_of devices d =
    if is_among d.path (line_paths devices) then Some (DuplicateDevice d.number)
    else (if nat_le most_devices (length devices) then Some TooManyDevices else None)

-- what forbids further strings: those of the path are there already
abbrev pub repeat_of : List StringsLine → StringsLine → Option PlanError
repeat_of lists s = if is_among s.path (strings_paths lists) then Some (DuplicateDevice s.number) else None

-- the fault of a line that says this behind these devices and lists of strings
abbrev pub fault_of : List DeviceLine → List StringsLine → Result (Option PlanLine) PlanError → Option PlanError
fault_of devices lists (Err e) = Some e
fault_of devices lists (Ok None) = None
fault_of devices lists (Ok (Some (Device d))) = refusal_of devices d
fault_of devices lists (Ok (Some (Strings s))) = repeat_of lists s

abbrev pub fault_at : List (List ℕ) → ℕ → Option PlanError
fault_at ls n = fault_of (devices_before ls n) (strings_before ls n) (meaning_at ls n)

-- the faults of the first n lines, in line order
abbrev pub faults_before : List (List ℕ) → ℕ → List PlanError
faults_before ls zero = []
faults_before ls (suc n) = faults_before ls n ++ option_to_list (fault_at ls n)

-- ---- what is found once all devices are known
-- a line with a supplier that is none of these paths
abbrev pub unknown_of : List (List ℕ) → DeviceLine → Option PlanError
unknown_of known d = if are_known known d.suppliers then None else Some (UnknownPath d.number)

-- available, without a driver
abbrev pub is_unmatched : DeviceLine → Bool
is_unmatched d = d.matching.available && is_none d.matching.driver

-- the strings of no device, or of one that may have none
abbrev pub misfit_of : List DeviceLine → StringsLine → Option PlanError
misfit_of devices s =
    option_map_or (λ d. if is_unmatched d then None else Some (BadLine s.number))
    (find (λ d. bytes_eq s.path d.path) devices) (Some (UnknownPath s.number))

-- the fault of a line that says this
abbrev pub late_fault_of : List DeviceLine → Result (Option PlanLine) PlanError → Option PlanError
late_fault_of devices (Err e) = None
late_fault_of devices (Ok None) = None
late_fault_of devices (Ok (Some (Device d))) = unknown_of (line_paths devices) d
late_fault_of devices (Ok (Some (Strings s))) = misfit_of devices s

-- those of the first n lines, in line order
abbrev pub late_faults_before : List DeviceLine → List (List ℕ) → ℕ → List PlanError
late_faults_before devices ls zero = []
late_faults_before devices ls (suc n) =
    late_faults_before devices ls n ++ option_to_list (late_fault_of devices (meaning_at ls n))

-- ---- the plan
-- the strings of the device at a path, if a line lists some
abbrev pub strings_at : List StringsLine → List ℕ → List (List ℕ)
strings_at lists path = option_map_or (λ s. s.strings) (find (λ s. bytes_eq path s.path) lists) []

abbrev pub planned_of : List (List ℕ) → List StringsLine → DeviceLine → PlannedDevice
planned_of known lists d = record {
  path = d.path;
  available = d.matching.available;
  driver = d.matching.driver;
  verdict = d.matching.verdict;
  suppliers = map (place_of known) d.suppliers;
  compatibles = strings_at lists d.path;
}

abbrev pub plan_of : List DeviceLine → List StringsLine → List PlannedDevice
plan_of devices lists = map (planned_of (line_paths devices) lists) devices

-- ---- the file
-- the first fault, or else the plan
abbrev pub first_or : List PlanError → List PlannedDevice → Result (List PlannedDevice) PlanError
first_or [] plan = Ok plan
first_or (e ∷ more) plan = Err e

-- what a plan file is read as: what is found once all devices are known comes after all other faults
abbrev pub reading : List ℕ → Result (List PlannedDevice) PlanError
reading text =
    let ls = lines text in
    let devices = devices_before ls (length ls) in
    first_or (faults_before ls (length ls) ++ late_faults_before devices ls (length ls))
    (plan_of devices (strings_before ls (length ls)))

-- a call answers what is right, but for want of memory
abbrev pub Answers : {A : Type 0} → Result A PlanError → Result A PlanError → Type 0
Answers right result = MatchResult result (λ v. right ≡ Ok v) (λ e. (e ≡ NoMemory) ⊎ (right ≡ Err e))
