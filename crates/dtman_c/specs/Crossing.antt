-- What crosses to a caller in C: how a call ended, and what its buffer has then.
use Rattle.std.specs.Prelude.{◌≡◌, ◌≤◌, ◌<◌, ◌++◌, ◌⊎◌, ◌+◌, ◌&&◌, ℕ, Bool, nat_le, IsTrue, List, length, drop, Result, Ok, Err}
use Rattle.dt_source.specs.declared.place.Place.{Place}
use Rattle.dtman_engine.specs.Fault.{FaultValue, no_memory}
use Rattle.dtman_engine.specs.declared.fault.Position.{Position}
use Rattle.dtman_engine.specs.declared.fault.Position.TheVariants.{Nowhere, Line, At, Within, Event}
use Rattle.dtman_c.specs.declared.answer.Answer.{Answer}

-- so many bytes are in the buffer
abbrev pub written : ℕ → Answer
written size = record { status = 0; number = 0; length = size; line = 0; byte = 0; event = 0 }

-- so many bytes have no room in the buffer
abbrev pub short : ℕ → Answer
short size = record { status = 1; number = 0; length = size; line = 0; byte = 0; event = 0 }

-- no fault has the number
abbrev pub unnamed : Answer
unnamed = record { status = 3; number = 0; length = 0; line = 0; byte = 0; event = 0 }

-- a line from 1, and 0 where there is none
abbrev pub line_of : Position → ℕ
line_of Nowhere = 0
line_of (Line line) = line
line_of (At place) = place.line
line_of (Within place) = place.line
line_of (Event event) = 0

-- a byte of a source from 1, and 0 where there is none
abbrev pub byte_of : Position → ℕ
byte_of Nowhere = 0
byte_of (Line line) = 0
byte_of (At place) = place.offset + 1
byte_of (Within place) = place.offset + 1
byte_of (Event event) = 0

-- an event from 1, and 0 where there is none
abbrev pub event_of : Position → ℕ
event_of Nowhere = 0
event_of (Line line) = 0
event_of (At place) = 0
event_of (Within place) = 0
event_of (Event event) = event

-- there are no bytes, for this fault
abbrev pub refused : FaultValue → Answer
refused fault =
    record { status = 2; number = fault.number; length = 0; line = line_of fault.position; byte = byte_of fault.position; event = event_of fault.position }

-- the number is of what a source says
abbrev pub is_said : ℕ → Bool
is_said number = nat_le 20 number && nat_le number 28

-- the same at a place in what a source says
abbrev pub refused_within : FaultValue → Place → Answer
refused_within fault place = refused (record { number = fault.number; name = fault.name; position = Within place })

-- there are no bytes, for this fault, whose place in what a source says may be told, too
abbrev pub IsRefused : FaultValue → Answer → Type 0
IsRefused fault told = (told ≡ refused fault) ⊎ (IsTrue (is_said fault.number) × ((place : Place) × (told ≡ refused_within fault place)))

-- the buffer begins with the bytes, and is behind them as it was
abbrev pub over : List ℕ → List ℕ → List ℕ
over bytes before = bytes ++ drop (length bytes) before

-- bytes that fit are in the buffer, and no others touch it; how many they are is told in either case
pub record IsPut (bytes before after : List ℕ) (told : Answer) : Type 0 where
  pub fits : length bytes ≤ length before → (told ≡ written (length bytes)) × (after ≡ over bytes before)
  pub is_short : length before < length bytes → (told ≡ short (length bytes)) × (after ≡ before)

-- what a caller gets of an engine's answer
abbrev pub Crosses : Result (List ℕ) FaultValue → List ℕ → List ℕ → Answer → Type 0
Crosses (Ok bytes) before after told = IsPut bytes before after told
Crosses (Err fault) before after told = IsRefused fault told × (after ≡ before)

-- what a caller gets is an answer that may be given
pub record IsGiven (MayBe : Result (List ℕ) FaultValue → Type 0) (before after : List ℕ) (told : Answer) : Type 0 where
  pub given : Result (List ℕ) FaultValue
  pub may_be : MayBe given
  pub crosses : Crosses given before after told

-- so it is where memory is wanted before the engine begins, too
abbrev pub OrNoMemory : (Result (List ℕ) FaultValue → Type 0) → Result (List ℕ) FaultValue → Type 0
OrNoMemory MayBe given = MayBe given ⊎ (given ≡ Err no_memory)
