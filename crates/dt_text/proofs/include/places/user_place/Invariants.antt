-- The lines that are left lead where all lines before this one do, and no bytes are known.
use Rattle.std.proofs.Common.{◌≡◌, ◌-◌, None}
use Rattle.dt_text.specs.Include.UserLines.{behind_lines, given_place, lines_of, place_of_line}
use Rattle.dt_text.proofs.include.places.user_place.Given as goal

abbrev pub invariant-loop : goal.invariant-loop
invariant-loop l = record {
  leads : behind_lines (l.line - l.counter) (given_place l.place) (lines_of l.left) ≡ place_of_line l.file l.text l.line;
  span : l.place.span ≡ None;
}
