-- How a reference set is kept: in order, so that the rows of a list stand side by side.
use Rattle.std.specs.Prelude.{◌≡◌, ℕ, ◌<◌, ◌&&◌, Bool, false, nat_lt, nat_le, List, length, slice_index_or, slice_get, IsSortedBy}
use Rattle.std.specs.Option.{option_map_or}
use Rattle.std.specs.Cmp.Lexicographic.{slice_cmp}
use Rattle.std.specs.Ordering.{nat_cmp, ordering_then, is_lt, is_le}
use Rattle.std.specs.Str.{bytes_eq}
use Rattle.std.specs.declared.cmp.Ordering.{Ordering}
use Rattle.dtman_check.specs.declared.table.reference.Row.{Row}
use Rattle.dtman_check.specs.declared.table.reference.RowRange.{RowRange}

-- by the list, then by the name
abbrev pub row_order : Row → Row → Ordering
row_order one other =
    ordering_then (slice_cmp nat_cmp one.compatible.now other.compatible.now) (slice_cmp nat_cmp one.name.now other.name.now)

abbrev pub AreInOrder : List Row → Type 0
AreInOrder rows = IsSortedBy (λ (x y : Row). is_lt (slice_cmp nat_cmp x.compatible.now y.compatible.now)) rows

abbrev pub is_before : List ℕ → Row → Bool
is_before list r = is_lt (slice_cmp nat_cmp r.compatible.now list)

abbrev pub is_upto : List ℕ → Row → Bool
is_upto list r = is_le (slice_cmp nat_cmp r.compatible.now list)

-- whether the name of the row at a place passes
abbrev pub passes_at : List Row → ℕ → (List ℕ → Bool) → Bool
passes_at rows place passes = option_map_or (λ (r : Row). passes r.name.now) (slice_get rows place) false

-- those in the range are those of the list
abbrev pub AreRowsOf : List Row → List ℕ → RowRange → Type 0
AreRowsOf rows list range =
    (k : ℕ) (d : Row) → k < length rows
    → bytes_eq (slice_index_or rows k d).compatible.now list ≡ (nat_le range.first k && nat_lt k range.end)
