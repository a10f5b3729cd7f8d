-- The text of a plan: a line a device, and then a line for each device that has strings, with one space between fields.
use Rattle.std.specs.Prelude.{ℕ, Bool, true, false, not, ◌==◌, codes, List, [], ◌∷◌, ◌++◌, map, filter, length, Option, Some, None}
use Rattle.std.specs.List.{flat_map}
use Rattle.bus_plan.specs.declared.verdict.Verdict.{Verdict}
use Rattle.bus_plan.specs.declared.verdict.Verdict.TheVariants.{Binds, Fails}
use Rattle.bus_plan.specs.Plan.{PlannedDevice, path_of}

abbrev pub word_of : Verdict → List ℕ
word_of Binds = codes "ok"
word_of Fails = codes "fail"

-- the second field: the driver, `-` for a device without one, `!` for one that isn't available
abbrev pub driver_field : Bool → Option (List ℕ) → List ℕ
driver_field available (Some driver) = driver
driver_field true None = codes "-"
driver_field false None = codes "!"

-- the third: what the driver does
abbrev pub verdict_field : Option (List ℕ) → Verdict → List ℕ
verdict_field (Some driver) verdict = word_of verdict
verdict_field None verdict = codes "-"

-- a space before each field
abbrev pub spaced : List (List ℕ) → List ℕ
spaced fields = flat_map (λ field. 32 ∷ field) fields

-- the fields behind the path
abbrev pub fields_behind : List PlannedDevice → PlannedDevice → List (List ℕ)
fields_behind plan d =
    driver_field d.available d.driver ∷ verdict_field d.driver d.verdict ∷ map (path_of plan) d.suppliers

abbrev pub device_text : List PlannedDevice → PlannedDevice → List ℕ
device_text plan d = d.path ++ spaced (fields_behind plan d)

-- the lines of some devices of a plan
abbrev pub lines_text : List PlannedDevice → List PlannedDevice → List ℕ
lines_text plan devices = flat_map (λ d. device_text plan d ++ 10 ∷ []) devices

-- the strings by which a late driver may match a device
abbrev pub has_strings : PlannedDevice → Bool
has_strings d = not (length d.compatibles == 0)

abbrev pub strings_text : PlannedDevice → List ℕ
strings_text d = codes "compatible" ++ spaced (d.path ∷ d.compatibles)

-- the lines of the strings of those devices that have some
abbrev pub strings_lines : List PlannedDevice → List ℕ
strings_lines devices = flat_map (λ d. strings_text d ++ 10 ∷ []) (filter has_strings devices)

abbrev pub text_of : List PlannedDevice → List ℕ
text_of plan = lines_text plan plan ++ strings_lines plan
