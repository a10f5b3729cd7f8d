use Rattle.std.proofs.Common.{◌≡◌, ◌++◌}
use Rattle.bus_plan.proofs.strings.add_fields.Given as goal

-- the strings so far are copied behind those from before, and the others are left
abbrev pub invariant-loop-string : goal.invariant-loop-string
invariant-loop-string l = l.copies.items ++ l.string-iterator ≡ l.fn.copies.items ++ l.fn.strings
