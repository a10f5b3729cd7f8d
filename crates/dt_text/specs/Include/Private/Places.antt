-- What was read of line markers and places, as the definitions have them.
use Rattle.std.specs.Prelude.{ℕ, List, option_map}
use denote.Ref.{Bor}
use Rattle.dt_text.specs.declared.include.marker.Marker.{Marker}
use Rattle.dt_text.specs.declared.include.places.Line.{Line}
use Rattle.dt_text.specs.Include.UserLines.{Told, UserPlace}

-- what a marker that was read tells
abbrev pub told_of : Marker → Told
told_of marker = record { line = marker.line; file = option_map (λ (f : Bor (List ℕ)). f.now) marker.file }

-- the place of a line that is kept
abbrev pub place_of : Line → UserPlace
place_of line = record { file = line.file.items; line = line.line }
