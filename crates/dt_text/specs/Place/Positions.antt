-- Files and lines of a text that the C preprocessor made (GNU C preprocessor, "Preprocessor output"): a line marker
-- `# 12 "board.dtsi" 1` says from which file and line the line behind it came.
use Rattle.std.specs.Prelude.{ℕ, ◌+◌, ◌-◌, ◌*◌, ◌==◌, ◌≤◌, ◌≡◌, ◌<◌, nat_lt, Bool, false, ◌&&◌, List, [], ◌∷◌, ◌++◌, length, take, drop, slice_index, slice_range, position, Option, Some, None, option_map, if◌then◌else◌}
use Rattle.dt_text.specs.Lexeme.Bytes.{is_digit}
use Rattle.dt_text.specs.Lexeme.Gaps.{begins_digit}
use Rattle.dt_text.specs.declared.place.marker.Origin.{Origin}
use Rattle.dt_text.specs.declared.place.position.Position.{Position}

-- a file, none where no marker named one, and a line of it
pub record Line : Type 0 where
  pub file : Option (List ℕ)
  pub number : ℕ

-- the number that digits at the front add to, of which nine count
unfoldable pub counted : ℕ → List ℕ → ℕ
counted n [] = n
counted n (c ∷ s) = if is_digit c && nat_lt n 100000000 then counted (n * 10 + (c - 48)) s else n

-- where the first quote stands
abbrev pub quote_in : List ℕ → Option ℕ
quote_in s = position (λ c. c == 34) s

abbrev pub before : Option ℕ → List ℕ → List ℕ
before (Some i) s = take i s
before None s = s

abbrev pub behind : Option ℕ → List ℕ → Option (List ℕ)
behind (Some i) s = Some (before (quote_in (drop (i + 1) s)) (drop (i + 1) s))
behind None s = None

-- what stands behind the first quote, up to the next
abbrev pub quoted : List ℕ → Option (List ℕ)
quoted s = behind (quote_in s) s

-- `# ` and a digit
abbrev pub is_marker : List ℕ → Bool
is_marker [] = false
is_marker (c ∷ []) = false
is_marker (c ∷ d ∷ s) = c == 35 && d == 32 && begins_digit s

abbrev pub first_file : Option (List ℕ) → Option (List ℕ) → Option (List ℕ)
first_file (Some file) old = Some file
first_file None old = old

-- The line behind this one: behind a marker that which it tells, by nine digits at most, else the next.
abbrev pub line_after : List ℕ → Line → Line
line_after text line =
    if is_marker text then record { file = first_file (quoted text) line.file; number = counted 0 (drop 2 text) }
    else record { file = line.file; number = line.number + 1 }

-- where a byte came from
pub record Site : Type 0 where
  pub line : Line
  pub column : ℕ

-- The site behind a text: the line that it begins in, and what was read of that.
unfoldable pub site_behind : Line → List ℕ → List ℕ → Site
site_behind line read [] = record { line = line; column = length read + 1 }
site_behind line read (c ∷ s) =
    if c == 10 then site_behind (line_after read line) [] s else site_behind line (read ++ c ∷ []) s

-- the first line of a text without a marker before it
abbrev pub first_line : Line
first_line = record { file = None; number = 1 }

-- where the byte at a place of a text came from
abbrev pub site_at : List ℕ → ℕ → Site
site_at text place = site_behind first_line [] (take place text)

-- ---- as the code has them

abbrev pub line_of : Origin → Line
line_of o = record { file = option_map (λ f. f.now) o.file; number = o.line }

abbrev pub site_of : Position → Site
site_of p = record { line = record { file = option_map (λ f. f.now) p.file; number = p.line }; column = p.column }

-- Of a line that begins at this place and is read up to there: what any longer front of the text comes to, it comes to from here.
abbrev pub IsRead : List ℕ → Line → ℕ → ℕ → Type 0
IsRead text line start end =
    (place : ℕ) → end ≤ place
    → site_behind line (slice_range (take place text) start end) (drop end (take place text)) ≡ site_at text place

abbrev pub IsCursor : List ℕ → Origin → ℕ → ℕ → Type 0
IsCursor text origin start end =
    (start ≤ end) × (end ≤ length text) × (origin.line ≤ 1000000000 + start) × IsRead text (line_of origin) start end

-- no line feed stands from the one place up to the other
abbrev pub HasNoFeed : List ℕ → ℕ → ℕ → Type 0
HasNoFeed text start end = (place : ℕ) → start ≤ place → place < end → slice_index text place ≡ 10 → ⊥

-- the first line feed between two places stands there, or there is none
abbrev pub IsFirstFeed : List ℕ → ℕ → ℕ → Option ℕ → Type 0
IsFirstFeed text start end None = HasNoFeed text start end
IsFirstFeed text start end (Some feed) =
    (start ≤ feed) × (feed < end) × (slice_index text feed ≡ 10) × HasNoFeed text start feed
