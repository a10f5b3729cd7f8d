-- A schedule's text: what each line says, and the events of all lines or the first fault.
use Rattle.std.specs.Prelude.{◌≡◌, ◌⊎◌, ℕ, ◌+◌, not, if◌then◌else◌, codes, List, [], ◌∷◌, ◌++◌, Option, Some, None, Result, Ok, Err}
use Rattle.std.specs.Str.{bytes_eq}
use Rattle.dt_tree.specs.Path.{is_path}
use Rattle.bus_plan.specs.declared.error.PlanError.{PlanError}
use Rattle.bus_plan.specs.declared.error.PlanError.TheVariants.{NoMemory, BadLine, UnknownPath}
use Rattle.bus_plan.specs.Lines.{lines, is_line, fields, is_skipped}
use Rattle.bus_plan.specs.Plan.{PlannedDevice, device_at, is_driver_name}
use Rattle.bus_core.specs.declared.event.Event.{Event}
use Rattle.bus_core.specs.declared.event.Event.TheVariants.{Begin, Finish, Abandon, Register}
use Rattle.bus_core.specs.declared.event.Report.TheVariants.{Settled, Missing}

-- ---- a line's fields
abbrev pub begin_of : ℕ → Option ℕ → Result Event PlanError
begin_of number None = Err (UnknownPath number)
begin_of number (Some d) = Ok (Begin d)

abbrev pub abandon_of : ℕ → Option ℕ → Result Event PlanError
abandon_of number None = Err (UnknownPath number)
abandon_of number (Some d) = Ok (Abandon d)

abbrev pub settled_of : ℕ → Option ℕ → Result Event PlanError
settled_of number None = Err (UnknownPath number)
settled_of number (Some d) = Ok (Finish d Settled)

abbrev pub missing_of : ℕ → Option ℕ → Option ℕ → Result Event PlanError
missing_of number None supplier = Err (UnknownPath number)
missing_of number (Some d) None = Err (UnknownPath number)
missing_of number (Some d) (Some supplier) = Ok (Finish d (Missing supplier))

-- `begin PATH` and `abandon PATH`
abbrev pub event_of_two : List PlannedDevice → ℕ → List ℕ → List ℕ → Result Event PlanError
event_of_two plan number word path =
    if not (is_path path) then Err (BadLine number)
    else (if bytes_eq word (codes "begin") then begin_of number (device_at plan path)
    else (if bytes_eq word (codes "abandon") then abandon_of number (device_at plan path)
    else Err (BadLine number)))

-- `finish PATH settled`
abbrev pub event_of_three : List PlannedDevice → ℕ → List ℕ → List ℕ → List ℕ → Result Event PlanError
event_of_three plan number word path said =
    if not (is_path path) then Err (BadLine number)
    else (if not (bytes_eq word (codes "finish")) then Err (BadLine number)
    else (if not (bytes_eq said (codes "settled")) then Err (BadLine number)
    else settled_of number (device_at plan path)))

-- `finish PATH missing SUPPLIER`
abbrev pub event_of_four : List PlannedDevice → ℕ → List ℕ → List ℕ → List ℕ → List ℕ → Result Event PlanError
event_of_four plan number word path said supplier =
    if not (is_path path) then Err (BadLine number)
    else (if not (is_path supplier) then Err (BadLine number)
    else (if not (bytes_eq word (codes "finish")) then Err (BadLine number)
    else (if not (bytes_eq said (codes "missing")) then Err (BadLine number)
    else missing_of number (device_at plan path) (device_at plan supplier))))

-- a word and what stands behind it, of the lines that name a device
abbrev pub device_event : List PlannedDevice → ℕ → List ℕ → List (List ℕ) → Result Event PlanError
device_event plan number word [] = Err (BadLine number)
device_event plan number word (path ∷ []) = event_of_two plan number word path
device_event plan number word (path ∷ said ∷ []) = event_of_three plan number word path said
device_event plan number word (path ∷ said ∷ supplier ∷ []) = event_of_four plan number word path said supplier
device_event plan number word (path ∷ said ∷ supplier ∷ more ∷ rest) = Err (BadLine number)

-- `driver NAME COMPATIBLE..`, as in a driver file: what stands behind the word
abbrev pub driver_event : ℕ → List (List ℕ) → Result Event PlanError
driver_event number [] = Err (BadLine number)
driver_event number (name ∷ []) = Err (BadLine number)
driver_event number (name ∷ string ∷ strings) =
    if is_driver_name name then Ok (Register name (string ∷ strings)) else Err (BadLine number)

abbrev pub event_of : List PlannedDevice → ℕ → List (List ℕ) → Result Event PlanError
event_of plan number [] = Err (BadLine number)
event_of plan number (word ∷ rest) =
    if bytes_eq word (codes "driver") then driver_event number rest else device_event plan number word rest

-- ---- a line
abbrev pub some_event : Result Event PlanError → Result (Option Event) PlanError
some_event (Err e) = Err e
some_event (Ok event) = Ok (Some event)

-- what a line says: nothing, an event, or its fault
abbrev pub line_meaning : List PlannedDevice → ℕ → List ℕ → Result (Option Event) PlanError
line_meaning plan number line =
    if not (is_line line) then Err (BadLine number)
    else (if is_skipped (fields line) then Ok None
    else some_event (event_of plan number (fields line)))

-- ---- all lines
-- events, and then those of the rest
abbrev pub behind : List Event → Result (List Event) PlanError → Result (List Event) PlanError
behind events (Err e) = Err e
behind events (Ok more) = Ok (events ++ more)

-- what a line and the rest say together
abbrev pub with_line : Result (Option Event) PlanError → Result (List Event) PlanError → Result (List Event) PlanError
with_line (Err e) rest = Err e
with_line (Ok None) rest = rest
with_line (Ok (Some event)) rest = behind (event ∷ []) rest

-- the lines have the numbers behind this one
abbrev pub schedule_behind : List PlannedDevice → ℕ → List (List ℕ) → Result (List Event) PlanError
schedule_behind plan number [] = Ok []
schedule_behind plan number (line ∷ rest) = with_line (line_meaning plan (number + 1) line) (schedule_behind plan (number + 1) rest)

abbrev pub schedule_of : List PlannedDevice → List ℕ → Result (List Event) PlanError
schedule_of plan text = schedule_behind plan 0 (lines text)

-- these are its events, and this is why it isn't read
abbrev pub IsSchedule : List PlannedDevice → List ℕ → List Event → Type 0
IsSchedule plan text events = schedule_of plan text ≡ Ok events

abbrev pub IsMisread : List PlannedDevice → List ℕ → PlanError → Type 0
IsMisread plan text e = (e ≡ NoMemory) ⊎ (schedule_of plan text ≡ Err e)

-- the events of one line
abbrev pub events_on : Result (Option Event) PlanError → List Event
events_on (Err e) = []
events_on (Ok None) = []
events_on (Ok (Some event)) = event ∷ []
