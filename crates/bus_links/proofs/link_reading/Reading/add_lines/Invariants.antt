use Rattle.std.proofs.Common.{◌≡◌, ◌+◌, length, Ok}
use Rattle.bus_plan.specs.Lines.{lines}
use Rattle.bus_links.specs.LinkFile.{with_lines}
use Rattle.bus_links.proofs.link_reading.Reading.add_lines.Given as goal

-- what is left of the lines makes of the set what all lines make of the one that was given
abbrev pub invariant-loop-line : goal.invariant-loop-line
invariant-loop-line l = record {
  counted : l.number + length l.line-iterator ≡ length (lines l.text);
  left : with_lines (l.number + 1) (Ok l.self) l.line-iterator ≡ with_lines 1 (Ok l.fn.self) (lines l.text);
}
