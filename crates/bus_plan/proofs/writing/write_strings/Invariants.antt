use Rattle.std.proofs.Common.{◌≡◌, ◌++◌, take}
use Rattle.bus_plan.specs.PlanText.{spaced}
use Rattle.bus_plan.proofs.writing.write_strings.Given as goal

-- the strings so far are written
abbrev pub invariant-loop-string : goal.invariant-loop-string
invariant-loop-string l = l.text.items ≡ l.initial.text.items ++ spaced (take l.string-index l.strings)
