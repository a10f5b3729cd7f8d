use Rattle.std.proofs.Common.{◌≡◌, ◌+◌, ◌≤◌, length}
use Rattle.dt_live.specs.Placed.Rows.{path_of}
use Rattle.dt_live.specs.Placed.Tables.{rows_in}
use Rattle.dt_live.proofs.placed.placed_tree.PlacedTree.depth.Given as goal

abbrev pub invariant-up : goal.invariant-up
invariant-up g l = record {
  known : l.at ≤ length (rows_in l.self.nodes);
  climbed : l.depth + l.at ≤ l.fn.node;
  same : l.depth + length (path_of (rows_in l.self.nodes) l.at) ≡ length (path_of (rows_in l.self.nodes) l.fn.node);
}

abbrev pub decreases-up : goal.decreases-up
decreases-up g l = l.at
