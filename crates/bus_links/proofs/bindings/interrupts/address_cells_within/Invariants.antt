use Rattle.std.proofs.Common.{◌≡◌}
use Rattle.bus_links.specs.Bindings.Interrupts.{address_cells_within}
use Rattle.bus_links.proofs.bindings.interrupts.address_cells_within.Given as goal

abbrev pub invariant-loop-left : goal.invariant-loop-left
invariant-loop-left l = address_cells_within l.nodes l.left l.at ≡ address_cells_within l.nodes l.steps l.place

abbrev pub decreases-loop-left : goal.decreases-loop-left
decreases-loop-left l = l.left
