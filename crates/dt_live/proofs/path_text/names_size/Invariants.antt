use Rattle.std.proofs.Common.{◌≡◌, ◌+◌, ◌-◌, ◌^◌, ◌≤◌, length, min}
use Rattle.dt_tree.specs.Path.{behind_slashes}
use Rattle.dt_live.specs.Rows.{path_of}
use Rattle.dt_live.proofs.path_text.names_size.Given as goal

abbrev pub invariant-up : goal.invariant-up
invariant-up l = record {
  fits : l.size ≤ 2 ^ 64 - 1;
  known : l.at ≤ length l.nodes;
  size : min (l.size + length (behind_slashes (path_of l.nodes l.at))) (2 ^ 64 - 1) ≡ min (length (behind_slashes (path_of l.nodes l.fn.node))) (2 ^ 64 - 1);
}

abbrev pub decreases-up : goal.decreases-up
decreases-up l = l.at
