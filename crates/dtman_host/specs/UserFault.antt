-- A fault of a whole text as the user is told it: by the line of the user's file (GNU cpp, "Preprocessor Output").
use Rattle.std.specs.Prelude.{ℕ, List}
use Rattle.dt_text.specs.Include.UserLines.{place_of_line}
use Rattle.dtman_engine.specs.Fault.{FaultValue}
use Rattle.dtman_engine.specs.declared.fault.Position.{Position}
use Rattle.dtman_engine.specs.declared.fault.Position.TheVariants.{At, Event, Line, Nowhere, Within}

-- the line of the user's file that a line of the text stands for; a byte is one of the whole text
abbrev pub user_position : List ℕ → List ℕ → Position → Position
user_position file text Nowhere = Nowhere
user_position file text (Line line) = Line (place_of_line file text line).line
user_position file text (At place) = At (record { offset = place.offset; line = (place_of_line file text place.line).line })
user_position file text (Within place) = Within place
user_position file text (Event event) = Event event

abbrev pub in_user_file : List ℕ → List ℕ → FaultValue → FaultValue
in_user_file file text fault = record { number = fault.number; name = fault.name; position = user_position file text fault.position }
