use Rattle.dt_live.specs.Placed.Standing.{HasProperties}
use Rattle.dt_live.proofs.placed.placed_tree.PlacedTree.show_properties.Given as goal

abbrev pub invariant-loop-row : goal.invariant-loop-row
invariant-loop-row g l = HasProperties l.self l.row l.shown
