-- A fault as contracts see it, and the line of standard error that tells it.
use Rattle.std.specs.Prelude.{◌≡◌, ℕ, List, [], ◌++◌, codes, Option, None, Some, Result, IsErrAnd, Vec}
use Rattle.std.specs.declared.alloc.Global.{Global}
use Rattle.std.specs.Fmt.{decimal}
use Rattle.dtman_engine.specs.declared.fault.Position.{Position}
use Rattle.dtman_engine.specs.declared.fault.Position.TheVariants.{Nowhere, Line, At, Within, Event}
use Rattle.dtman_engine.specs.declared.fault.Fault.{Fault}

pub record FaultValue : Type 0 where
  pub number : ℕ
  pub name : List ℕ
  pub position : Position

-- the position that a refusal's line tells: a place in what a source says isn't told there
abbrev pub told_position : Position → Position
told_position Nowhere = Nowhere
told_position (Line line) = Line line
told_position (At place) = At place
told_position (Within place) = Nowhere
told_position (Event event) = Event event

abbrev pub fault_value : Fault → FaultValue
fault_value fault = record { number = fault.number; name = fault.name.now; position = told_position fault.position }

-- where the fault is, as it is printed
abbrev pub position_text : Position → List ℕ
position_text Nowhere = []
position_text (Line line) = codes " line " ++ decimal line
position_text (At place) = codes " line " ++ decimal place.line
position_text (Within place) = []
position_text (Event event) = codes " event " ++ decimal event

-- the line that a position tells
abbrev pub line_in : Position → Option ℕ
line_in Nowhere = None
line_in (Line line) = Some line
line_in (At place) = Some place.line
line_in (Within place) = Some place.line
line_in (Event event) = None

-- the byte that a position tells
abbrev pub offset_in : Position → Option ℕ
offset_in Nowhere = None
offset_in (Line line) = None
offset_in (At place) = Some place.offset
offset_in (Within place) = Some place.offset
offset_in (Event event) = None

-- the number, the name and the position
abbrev pub fault_line : Fault → List ℕ
fault_line fault = codes "error " ++ decimal fault.number ++ codes " " ++ fault.name.now ++ position_text fault.position

abbrev pub no_memory : FaultValue
no_memory = record { number = 0; name = codes "NoMemory"; position = Nowhere }

-- an engine answers bytes, or a fault
abbrev pub Answer : Type 0
Answer = Result (Vec ℕ Global) Fault

-- the answer is this fault
abbrev pub Tells : {V : Type 0} → Result V Fault → FaultValue → Type 0
Tells given told = IsErrAnd given (λ fault. fault_value fault ≡ told)

-- ---- the faults of files
abbrev pub cannot_read : FaultValue
cannot_read = record { number = 80; name = codes "CannotRead"; position = Nowhere }

abbrev pub cannot_write : FaultValue
cannot_write = record { number = 81; name = codes "CannotWrite"; position = Nowhere }

abbrev pub file_too_long : FaultValue
file_too_long = record { number = 82; name = codes "FileTooLong"; position = Nowhere }
