use Rattle.std.proofs.Common.{◌≡◌, length}
use Rattle.bus_links.specs.Bindings.Interrupts.{agrees}
use Rattle.bus_links.proofs.bindings.nexus.agrees.Given as goal

-- what is left agrees where all does
abbrev pub invariant-loop-left : goal.invariant-loop-left
invariant-loop-left l = agrees l.masks l.left l.row ≡ agrees l.fn.masks l.key l.fn.row

abbrev pub decreases-loop-left : goal.decreases-loop-left
decreases-loop-left l = length l.left
