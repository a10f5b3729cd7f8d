use Rattle.std.proofs.Common.{◌≡◌, ℕ, ◌≤◌, ◌&&◌, List, drop}
use Rattle.std.specs.List.{position_from}
use Rattle.std.specs.Str.{bytes_eq}
use Rattle.dtman_check.specs.declared.table.reference.Row.{Row}
use Rattle.dtman_check.specs.Table.Private.Reference.{AreRowsOf}
use Rattle.dtman_check.specs.Table.Unknown.{row_of, is_near}
use Rattle.dtman_check.proofs.table.unknown.near_row.Given as goal

-- no row that was passed is the one
abbrev pub invariant-loop-place : goal.invariant-loop-place
invariant-loop-place l = record {
  behind : l.fn.places.first ≤ l.place;
  passed : (list : List ℕ) → AreRowsOf l.reference list l.fn.places
      → row_of l.reference list (λ known. is_near known l.name)
      ≡ position_from (λ (r : Row). bytes_eq r.compatible.now list && is_near r.name.now l.name) l.place (drop l.place l.reference);
}
