-- A driver file with lines `early COMPATIBLE..` and `bus COMPATIBLE..`: all other lines are those of `DriverFile`.
use Rattle.std.specs.Prelude.{ℕ, ◌+◌, codes, if◌then◌else◌, List, [], ◌∷◌, ◌++◌, Option, Some, None, Result, Ok, Err}
use Rattle.std.specs.Str.{bytes_eq}
use Rattle.dt_tree.specs.Steps.{then_do}
use Rattle.bus_plan.specs.declared.error.PlanError.{PlanError}
use Rattle.bus_plan.specs.declared.error.PlanError.TheVariants.{BadLine}
use Rattle.bus_plan.specs.Lines.{lines, line_fields}
use Rattle.bus_plan.specs.PlanPaths.{is_among}
use Rattle.bus_drivers.specs.Driver.{DriverSetData}
use Rattle.bus_drivers.specs.DriverFile.{meaning, with_line as with_driver_line}
use Rattle.bus_links.specs.LinkDrivers.{LinkDriversData, simple_buses}

-- each string once
abbrev pub with_string : List (List ℕ) → List ℕ → List (List ℕ)
with_string set string = if is_among string set then set else set ++ string ∷ []

abbrev pub with_strings : List (List ℕ) → List (List ℕ) → List (List ℕ)
with_strings set [] = set
with_strings set (string ∷ more) = with_strings (with_string set string) more

-- the strings of a line: one at least
abbrev pub strings_of : ℕ → List (List ℕ) → Result (List (List ℕ)) PlanError
strings_of number [] = Err (BadLine number)
strings_of number (string ∷ more) = Ok (string ∷ more)

abbrev pub with_early : LinkDriversData → List (List ℕ) → LinkDriversData
with_early set strings = record { drivers = set.drivers; early = with_strings set.early strings; buses = set.buses }

abbrev pub with_buses : LinkDriversData → List (List ℕ) → LinkDriversData
with_buses set strings = record { drivers = set.drivers; early = set.early; buses = with_strings set.buses strings }

abbrev pub with_drivers : LinkDriversData → DriverSetData → LinkDriversData
with_drivers set drivers = record { drivers = drivers; early = set.early; buses = set.buses }

-- the set behind a line with this number and these fields
abbrev pub with_fields : ℕ → LinkDriversData → List ℕ → List (List ℕ) → Result LinkDriversData PlanError
with_fields number set line [] = Ok set
with_fields number set line (word ∷ more) =
    if bytes_eq word (codes "early") then then_do (strings_of number more) (λ strings. Ok (with_early set strings))
    else (if bytes_eq word (codes "bus") then then_do (strings_of number more) (λ strings. Ok (with_buses set strings))
    else then_do (with_driver_line number set.drivers (meaning number line)) (λ drivers. Ok (with_drivers set drivers)))

abbrev pub with_said : ℕ → LinkDriversData → List ℕ → Option (List (List ℕ)) → Result LinkDriversData PlanError
with_said number set line None = Ok set
with_said number set line (Some fields) = with_fields number set line fields

abbrev pub with_line : ℕ → LinkDriversData → List ℕ → Result LinkDriversData PlanError
with_line number set line = then_do (line_fields number line) (with_said number set line)

-- the set behind all lines, of which the first has this number
abbrev pub with_lines : ℕ → Result LinkDriversData PlanError → List (List ℕ) → Result LinkDriversData PlanError
with_lines number (Err e) ls = Err e
with_lines number (Ok set) [] = Ok set
with_lines number (Ok set) (line ∷ more) = with_lines (number + 1) (with_line number set line) more

abbrev pub no_drivers : LinkDriversData
no_drivers = record { drivers = record { drivers = []; fails = [] }; early = []; buses = simple_buses }

-- what such a file is read as
abbrev pub link_reading : List ℕ → Result LinkDriversData PlanError
link_reading text = with_lines 1 (Ok no_drivers) (lines text)
