use Rattle.std.proofs.Common.{◌≡◌, take}
use Rattle.std.specs.List.{list_all}
use Rattle.bus_plan.specs.Lines.{is_line_byte}
use Rattle.bus_plan.proofs.lines.is_line.Given as goal

-- whether the bytes so far may stand in a line
abbrev pub invariant-loop-byte : goal.invariant-loop-byte
invariant-loop-byte l = l.is_line ≡ list_all is_line_byte (take l.byte-index l.line)
