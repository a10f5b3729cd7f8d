-- A mention as a row of a text: the line of the node that it means (`-` without one), the path of the node that has the property, the property
-- with the entry's number, the cells of the specifier and, where it shares the line, the path of another user:
-- `12 /keys/power gpios[0] <12 1> shared with /leds/led-0`.
use Rattle.std.specs.Prelude.{ℕ, zero, suc, codes, decimal, if◌then◌else◌, List, [], ◌∷◌, ◌++◌, Option, Some, None, option_and_then}
use Rattle.std.specs.Option.{option_map_or}
use Rattle.std.specs.List.{slice_get}
use Rattle.dt_check.specs.Cells.{cells_of}
use Rattle.dt_check.specs.Nodes.{PlacedData}
use Rattle.dt_questions.specs.Lines.{line_of, shares}
use Rattle.dt_questions.specs.Mention.{MentionData}
use Rattle.dt_questions.specs.Paths.{path_at}

abbrev pub line_text : Option ℕ → List ℕ
line_text line = option_map_or decimal line (codes "-")

-- numbers, each behind a blank
abbrev pub digits_of : List ℕ → List ℕ
digits_of [] = []
digits_of (cell ∷ more) = 32 ∷ (decimal cell ++ digits_of more)

abbrev pub cells_text : List ℕ → List ℕ
cells_text [] = []
cells_text (cell ∷ more) = decimal cell ++ digits_of more

abbrev pub sharing_text : List PlacedData → Option MentionData → List ℕ
sharing_text nodes other = option_map_or (λ o. codes " shared with " ++ path_at nodes o.user) other []

abbrev pub row_text : List PlacedData → MentionData → Option MentionData → List ℕ
row_text nodes m other =
    line_text (line_of nodes m) ++ 32 ∷ [] ++ path_at nodes m.user ++ 32 ∷ [] ++ m.property ++ 91 ∷ [] ++ decimal m.entry ++ codes "] <"
    ++ cells_text (cells_of m.cells) ++ 62 ∷ [] ++ sharing_text nodes other ++ 10 ∷ []

-- the nearest of so many rows before a place that shares the line of this mention
abbrev pub nearest : List PlacedData → List MentionData → MentionData → ℕ → ℕ → Option MentionData
nearest nodes rows m zero place = None
nearest nodes rows m (suc left) zero = None
nearest nodes rows m (suc left) (suc before) =
    option_and_then (λ o. if shares nodes o m then Some o else nearest nodes rows m left before) (slice_get rows before)

-- 64 rows are looked at, so that a text takes no longer than its rows
unfoldable pub window : ℕ
window = 64

-- the line of the row at a place
abbrev pub row_at : List PlacedData → List MentionData → ℕ → MentionData → List ℕ
row_at nodes rows place m = row_text nodes m (nearest nodes rows m window place)
