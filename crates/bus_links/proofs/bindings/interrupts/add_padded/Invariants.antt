use Rattle.std.proofs.Common.{◌≡◌, ◌++◌}
use Rattle.bus_links.specs.Bindings.Interrupts.{padded}
use Rattle.bus_links.proofs.bindings.interrupts.add_padded.Given as goal

-- the bytes so far and those that are left are all
abbrev pub invariant-loop-left : goal.invariant-loop-left
invariant-loop-left l = l.key.items ++ padded l.left l.rest ≡ l.fn.key.items ++ padded l.count l.bytes

abbrev pub decreases-loop-left : goal.decreases-loop-left
decreases-loop-left l = l.left
