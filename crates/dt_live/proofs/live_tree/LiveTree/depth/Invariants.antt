use Rattle.std.proofs.Common.{◌≡◌, ◌+◌, ◌≤◌, length}
use Rattle.dt_live.specs.Rows.{path_of}
use Rattle.dt_live.proofs.live_tree.LiveTree.depth.Given as goal

abbrev pub invariant-up : goal.invariant-up
invariant-up g l = record {
  known : l.at ≤ length l.self.nodes.items;
  climbed : l.depth + l.at ≤ l.fn.node;
  same : l.depth + length (path_of l.self.nodes.items l.at) ≡ length (path_of l.self.nodes.items l.fn.node);
}

abbrev pub decreases-up : goal.decreases-up
decreases-up g l = l.at
