use Rattle.std.proofs.Common.{◌≡◌, take}
use Rattle.bus_plan.proofs.strings.copy_strings.Given as goal

-- the strings so far
abbrev pub invariant-loop-string : goal.invariant-loop-string
invariant-loop-string l = l.copies.items ≡ take l.string-index l.strings
