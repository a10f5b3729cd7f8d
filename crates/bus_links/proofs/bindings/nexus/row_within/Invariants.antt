use Rattle.std.proofs.Common.{◌≡◌}
use Rattle.bus_links.specs.Bindings.Interrupts.{row_within}
use Rattle.bus_links.proofs.bindings.nexus.row_within.Given as goal

abbrev pub invariant-loop-left : goal.invariant-loop-left
invariant-loop-left l = row_within l.nodes l.masks l.key l.left l.rest ≡ row_within l.nodes l.masks l.key l.most l.rows

abbrev pub decreases-loop-left : goal.decreases-loop-left
decreases-loop-left l = l.left
