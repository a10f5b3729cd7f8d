use Rattle.std.proofs.Common.{◌-◌, length}
use Rattle.dt_live.specs.Placed.Standing.{HasLabelRows}
use Rattle.dt_live.specs.Placed.Tables.{rows_in}
use Rattle.dt_live.proofs.placed.placed_tree.PlacedTree.labels_as_properties.Given as goal

abbrev pub invariant-loop-place : goal.invariant-loop-place
invariant-loop-place g l = HasLabelRows l.self (length (rows_in l.self.labels) - l.place) l.shown
