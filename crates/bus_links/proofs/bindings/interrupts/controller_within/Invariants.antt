use Rattle.std.proofs.Common.{◌≡◌}
use Rattle.bus_links.specs.Bindings.Interrupts.{controller_within}
use Rattle.bus_links.proofs.bindings.interrupts.controller_within.Given as goal

abbrev pub invariant-loop-left : goal.invariant-loop-left
invariant-loop-left l = controller_within l.nodes l.left l.at l.asked ≡ controller_within l.nodes l.steps l.place l.key

abbrev pub decreases-loop-left : goal.decreases-loop-left
decreases-loop-left l = l.left
