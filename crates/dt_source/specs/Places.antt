-- Places in a text: an offset in bytes, and the line of that byte, from 1.
use Rattle.std.specs.Prelude.{ℕ, min, List, length}
use Rattle.dt_text.specs.Lexeme.Lines.{line_at}
use Rattle.dt_source.specs.declared.place.Place.{Place}

-- the place of a byte; one behind the text is its end
abbrev pub place_at : List ℕ → ℕ → Place
place_at text offset = record { offset = min offset (length text); line = line_at text offset }

-- of want of memory, which is no line's
abbrev pub nowhere : Place
nowhere = record { offset = 0; line = 0 }

-- where every text begins
abbrev pub beginning : Place
beginning = record { offset = 0; line = 1 }
