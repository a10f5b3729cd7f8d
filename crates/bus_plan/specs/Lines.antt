-- The lines and the fields of a text file of the bus.
use Rattle.std.specs.Prelude.{ℕ, Bool, true, ◌&&◌, ◌||◌, ◌==◌, nat_le, not, if◌then◌else◌, List, [], ◌∷◌, length, filter, slice_index, Option, Some, None, Result, Ok, Err}
use Rattle.std.specs.Borrow.{Bor}
use Rattle.std.specs.Iterator.{YieldsFirstRef}
use Rattle.std.specs.List.{list_all, slice_split}
use Rattle.bus_plan.specs.declared.error.PlanError.{PlanError}
use Rattle.bus_plan.specs.declared.error.PlanError.TheVariants.{BadLine}
-- the lines of a text are std's `lines`: the parts between line feeds, the last one only if it isn't empty,
-- and one carriage return goes with the line feed behind it
pub use Rattle.std.specs.Str.Lines.{lines}

-- a tab, or a printing character of ASCII
abbrev pub is_line_byte : ℕ → Bool
is_line_byte b = b == 9 || (nat_le 32 b && nat_le b 126)

-- no other byte stands in the line
abbrev pub is_line : List ℕ → Bool
is_line line = list_all is_line_byte line

-- a space or a tab
abbrev pub is_blank : ℕ → Bool
is_blank b = b == 32 || b == 9

abbrev pub is_filled : List ℕ → Bool
is_filled field = not (length field == 0)

-- the fields of a line: what stands between blanks
abbrev pub fields : List ℕ → List (List ℕ)
fields line = filter is_filled (slice_split is_blank line)

-- one call gives the first of the fields that are left and leaves the others
abbrev pub TakesFirst : List (List ℕ) → Option (Bor (List ℕ)) → List (List ℕ) → Type 0
TakesFirst = YieldsFirstRef (λ left. left)

-- a line of these fields says nothing: there are none, or the first begins with `#`
abbrev pub is_skipped : List (List ℕ) → Bool
is_skipped [] = true
is_skipped (field ∷ more) = slice_index field 0 == 35

-- what there is to read in a line: its fields, nothing where it is skipped, or that it is bad
abbrev pub line_fields : ℕ → List ℕ → Result (Option (List (List ℕ))) PlanError
line_fields number line =
    if is_line line then (if is_skipped (fields line) then Ok None else Ok (Some (fields line)))
    else Err (BadLine number)
