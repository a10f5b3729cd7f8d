-- The lines that are left lead where all lines do.
use Rattle.std.proofs.Common.{◌≡◌, ◌-◌}
use Rattle.dt_text.specs.Include.Private.Places.{place_of}
use Rattle.dt_text.specs.Include.UserLines.{behind_lines, lines_of, place_behind}
use Rattle.dt_text.proofs.include.places.Line.advance.Given as goal

abbrev pub invariant-loop : goal.invariant-loop
invariant-loop l = behind_lines (l.end - l.counter) (place_of l.self) (lines_of l.left) ≡ place_behind (place_of l.fn.self) l.text
