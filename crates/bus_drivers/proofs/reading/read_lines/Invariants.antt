use Rattle.std.proofs.Common.{◌≡◌, ◌+◌, length, Ok}
use Rattle.bus_plan.specs.Lines.{lines}
use Rattle.bus_drivers.specs.DriverFile.{with_lines}
use Rattle.bus_drivers.proofs.reading.read_lines.Given as goal

-- what is left of the lines makes of the builder what all lines make of the one that was given
abbrev pub invariant-loop-line : goal.invariant-loop-line
invariant-loop-line l = record {
  counted : l.number + length l.line-iterator ≡ length (lines l.text);
  left : with_lines (l.number + 1) (Ok l.builder) l.line-iterator ≡ with_lines 1 (Ok l.fn.builder) (lines l.text);
}
