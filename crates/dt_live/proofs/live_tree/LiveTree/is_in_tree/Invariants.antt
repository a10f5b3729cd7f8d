use Rattle.std.proofs.Common.{◌≡◌, ◌≤◌, length}
use Rattle.dt_live.specs.Rows.{stands}
use Rattle.dt_live.proofs.live_tree.LiveTree.is_in_tree.Given as goal

abbrev pub invariant-up : goal.invariant-up
invariant-up g l = record {
  known : l.at ≤ length l.self.nodes.items;
  same : stands l.self.nodes.items l.at ≡ stands l.self.nodes.items l.fn.node;
}

abbrev pub decreases-up : goal.decreases-up
decreases-up g l = l.at
