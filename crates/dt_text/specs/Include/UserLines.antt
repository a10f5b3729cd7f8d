-- Lines of the user's files, by the line markers of the C preprocessor (GNU cpp, "Preprocessor Output": `# 5 "f" 1`; ISO C11,
-- section 6.10.4: `#line 5`).
use Rattle.std.specs.Prelude.{ℕ, zero, suc, ◌+◌, ◌-◌, ◌^◌, ◌==◌, min, nat_le, Bool, true, false, not, ◌||◌, List, [], ◌∷◌, ◌++◌, codes, length, take, drop, Option, Some, None, if◌then◌else◌, option_map, unwrap_or}
use Rattle.std.specs.Fmt.{decimal}
use Rattle.std.specs.List.{count_by, list_any, slice_split, suffix_len}
use Rattle.std.specs.Str.Parse.{digits_value}
use Rattle.dt_text.specs.Lexeme.Bytes.{begins}
use Rattle.dt_text.specs.Include.Bytes.{run_of}
use Rattle.dt_text.specs.Lexeme.Gaps.{begins_dtc_marker, behind_word}
use Rattle.dt_text.specs.declared.include.bytes.Class.TheVariants.{Blank, Digit, Line}
use Rattle.dt_text.specs.declared.include.place.Place.{Place}

-- ---- what a line marker says

-- the greatest number of a line: a greater one stands for it
abbrev pub greatest_line : ℕ
greatest_line = 2 ^ 64 - 1

-- the longest name of a file that a line marker has, with its quotes: no system opens a longer path
abbrev pub longest_name : ℕ
longest_name = 4096

-- What a line marker says of the line behind it: its number, and its file where it names one.
pub record Told : Type 0 where
  pub line : ℕ
  pub file : Option (List ℕ)

-- a number of a line, by its digits
abbrev pub line_number : List ℕ → ℕ
line_number digits = min (digits_value 10 digits) greatest_line

-- What stands before the first quote (34); behind a backslash (92) any byte stands. The flag says that a backslash stands before.
unfoldable pub up_to_quote : Bool → List ℕ → Option (List ℕ)
up_to_quote escaped [] = None
up_to_quote true (c ∷ s) = option_map (λ name. c ∷ name) (up_to_quote false s)
up_to_quote false (c ∷ s) = if c == 34 then Some [] else option_map (λ name. c ∷ name) (up_to_quote (c == 92) s)

-- a name that is not too long
abbrev pub short_name : Option (List ℕ) → Option (List ℕ)
short_name None = None
short_name (Some name) = if nat_le (length name + 2) longest_name then Some name else None

-- the name between the quotes that a text begins with
abbrev pub name_of : List ℕ → Option (List ℕ)
name_of s = if begins 34 s then short_name (up_to_quote false (drop 1 s)) else None

-- what stands behind a run of blanks
abbrev pub behind_blanks : List ℕ → List ℕ
behind_blanks s = drop (run_of Blank s) s

-- what a text tells that begins with a number: a name may stand behind it
abbrev pub told_at : List ℕ → Told
told_at s = record { line = line_number (take (run_of Digit s) s); file = name_of (behind_blanks (drop (run_of Digit s) s)) }

-- what a line tells that is a line marker's behind the sign #
abbrev pub told : List ℕ → Told
told line = told_at (behind_blanks (behind_word line))

-- what a line tells, if it is a line marker
abbrev pub told_by : List ℕ → Option Told
told_by line = if begins_dtc_marker line then Some (told (drop 1 line)) else None

-- ---- places

-- A place: a line of a file of the user's.
pub record UserPlace : Type 0 where
  pub file : List ℕ
  pub line : ℕ

-- the place behind a line that tells this: the next line, or the marker's, of the same file where that names none
abbrev pub place_told : UserPlace → Option Told → UserPlace
place_told place None = record { file = place.file; line = min (place.line + 1) greatest_line }
place_told place (Some t) = record { file = unwrap_or t.file place.file; line = t.line }

-- the place behind a line
abbrev pub next_place : UserPlace → List ℕ → UserPlace
next_place place line = place_told place (told_by line)

-- the place behind so many lines; behind the last that is there stand empty ones
unfoldable pub behind_lines : ℕ → UserPlace → List (List ℕ) → UserPlace
behind_lines zero place lines = place
behind_lines (suc n) place [] = behind_lines n (next_place place []) []
behind_lines (suc n) place (line ∷ lines) = behind_lines n (next_place place line) lines

-- the lines of a text, cut at its line ends (10)
abbrev pub lines_of : List ℕ → List (List ℕ)
lines_of text = slice_split (λ c. c == 10) text

-- the place behind a text: behind its lines that end
unfoldable pub place_behind : UserPlace → List ℕ → UserPlace
place_behind place text = behind_lines (count_by (λ c. c == 10) text) place (lines_of text)

-- the place that stands for a line of a text, from 1, whose first line is that of a file
abbrev pub place_of_line : List ℕ → List ℕ → ℕ → UserPlace
place_of_line file text line = behind_lines (line - 1) (record { file = file; line = 1 }) (lines_of text)

-- the file and the line of a place that is given
abbrev pub given_place : Place → UserPlace
given_place place = record { file = place.file.now; line = place.line }

-- whether a quote (34), a backslash (92) or a line end stands in a file's name
abbrev pub has_sign : List ℕ → Bool
has_sign path = list_any (λ c. c == 34 || (c == 92 || c == 10)) path

-- a file's name as a line marker holds it, or nothing
abbrev pub plain_of : List ℕ → List ℕ
plain_of path = if has_sign path then [] else path

-- a line marker, on a line of its own
abbrev pub marker_line : ℕ → List ℕ → List ℕ
marker_line line file = codes "\n# " ++ decimal line ++ codes " \"" ++ file ++ codes "\"\n"

-- the first line of a file
abbrev pub first_of : List ℕ → UserPlace
first_of path = record { file = plain_of path; line = 1 }

-- the line marker of a place
abbrev pub marker_of : UserPlace → List ℕ
marker_of place = marker_line place.line place.file

-- ---- lines and columns of bytes

-- where the line begins in which a byte stands: behind the last line end before the byte
abbrev pub line_begin : List ℕ → ℕ → ℕ
line_begin text at = length (take at text) - suffix_len (λ c. not (c == 10)) (take at text)

-- a text up to its first line end
abbrev pub first_line : List ℕ → List ℕ
first_line text = take (run_of Line text) text

-- the line in which a byte stands
abbrev pub line_with : List ℕ → ℕ → List ℕ
line_with text at = first_line (drop (line_begin text at) text)

-- the column of a byte in the line in which another stands, from 1; of a byte behind that line the one behind its last
abbrev pub column_in : List ℕ → ℕ → ℕ → ℕ
column_in text at byte = min (byte - line_begin text at) (length (line_with text at)) + 1
