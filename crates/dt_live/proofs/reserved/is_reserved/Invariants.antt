use Rattle.std.proofs.Common.{◌≡◌, ◌≤◌, length}
use Rattle.dt_tree.specs.Phandle.{is_reserved}
use Rattle.dt_live.specs.Rows.{path_of}
use Rattle.dt_live.proofs.reserved.is_reserved.Given as goal

abbrev pub invariant-up : goal.invariant-up
invariant-up l = record {
  known : l.at ≤ length l.nodes;
  same : is_reserved (path_of l.nodes l.at) ≡ is_reserved (path_of l.nodes l.fn.node);
}

abbrev pub decreases-up : goal.decreases-up
decreases-up l = l.at
