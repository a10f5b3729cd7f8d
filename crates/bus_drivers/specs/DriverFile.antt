-- A driver file: what each line says, and the driver set or the first fault in line order.
use Rattle.std.specs.Prelude.{ℕ, ◌+◌, codes, if◌then◌else◌, List, [], ◌∷◌, ◌++◌, Option, Some, None, Result, Ok, Err}
use Rattle.std.specs.Str.{bytes_eq}
use Rattle.dt_tree.specs.Path.{is_path}
use Rattle.bus_plan.specs.declared.error.PlanError.{PlanError}
use Rattle.bus_plan.specs.declared.error.PlanError.TheVariants.{BadLine, DuplicateDriver}
use Rattle.bus_plan.specs.Lines.{lines, is_line, fields, is_skipped}
use Rattle.bus_plan.specs.Plan.{is_driver_name}
use Rattle.bus_plan.specs.PlanPaths.{is_among}
use Rattle.bus_drivers.specs.declared.statement.Statement.{Statement}
use Rattle.bus_drivers.specs.declared.statement.Statement.TheVariants.{Matches, Fails}
use Rattle.bus_drivers.specs.Driver.{DriverData, FailData, DriverSetData, driver_names}

-- ---- a line
-- `driver NAME COMPATIBLE..`
abbrev pub driver_of : List ℕ → List (List ℕ) → Option Statement
driver_of name [] = None
driver_of name (c ∷ cs) = if is_driver_name name then Some (Matches (record { name = name; compatibles = c ∷ cs })) else None

-- `fail PATH`
abbrev pub fail_of : ℕ → List ℕ → List (List ℕ) → Option Statement
fail_of number path [] = if is_path path then Some (Fails (record { path = path; line = number })) else None
fail_of number path (_ ∷ _) = None

-- the statement of a line with these fields
abbrev pub statement_of : ℕ → List (List ℕ) → Option Statement
statement_of number [] = None
statement_of number (word ∷ []) = None
statement_of number (word ∷ first ∷ more) =
    if bytes_eq word (codes "driver") then driver_of first more
    else (if bytes_eq word (codes "fail") then fail_of number first more else None)

-- a line that isn't skipped is a statement or bad
abbrev pub stated : ℕ → Option Statement → Result (Option Statement) PlanError
stated number None = Err (BadLine number)
stated number (Some s) = Ok (Some s)

-- what a line says: nothing, a statement, or that it is bad
abbrev pub meaning : ℕ → List ℕ → Result (Option Statement) PlanError
meaning number line =
    if is_line line then (if is_skipped (fields line) then Ok None else stated number (statement_of number (fields line)))
    else Err (BadLine number)

-- ---- all lines
-- a driver set with one more driver, whose name must be new
abbrev pub with_driver : ℕ → DriverSetData → DriverData → Result DriverSetData PlanError
with_driver number set d =
    if is_among d.name (driver_names set.drivers) then Err (DuplicateDriver number)
    else Ok (record { drivers = set.drivers ++ d ∷ []; fails = set.fails })

abbrev pub with_fail : DriverSetData → FailData → DriverSetData
with_fail set f = record { drivers = set.drivers; fails = set.fails ++ f ∷ [] }

abbrev pub with_statement : ℕ → DriverSetData → Statement → Result DriverSetData PlanError
with_statement number set (Matches d) = with_driver number set d
with_statement number set (Fails f) = Ok (with_fail set f)

-- the set behind a line that says this
abbrev pub with_line : ℕ → DriverSetData → Result (Option Statement) PlanError → Result DriverSetData PlanError
with_line number set (Err e) = Err e
with_line number set (Ok None) = Ok set
with_line number set (Ok (Some s)) = with_statement number set s

-- the set behind all lines, of which the first has this number
abbrev pub with_lines : ℕ → Result DriverSetData PlanError → List (List ℕ) → Result DriverSetData PlanError
with_lines number (Err e) ls = Err e
with_lines number (Ok set) [] = Ok set
with_lines number (Ok set) (line ∷ more) = with_lines (number + 1) (with_line number set (meaning number line)) more

-- what a driver file is read as
abbrev pub reading : List ℕ → Result DriverSetData PlanError
reading text = with_lines 1 (Ok (record { drivers = []; fails = [] })) (lines text)
