use Rattle.dt_live.specs.Placed.Standing.{AreNoted}
use Rattle.dt_live.proofs.placed.placed_tree.PlacedTree.check_labels.Given as goal

abbrev pub invariant-loop-row : goal.invariant-loop-row
invariant-loop-row g l = AreNoted l.self l.row l.words
