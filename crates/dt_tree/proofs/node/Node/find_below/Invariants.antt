use Rattle.std.proofs.Common.{◌≡◌, drop, length}
use Rattle.std.specs.List.{slice_split}
use Rattle.dt_tree.specs.Path.{is_slash}
use Rattle.dt_tree.specs.PathMap.{node_at}
use Rattle.dt_tree.proofs.node.Node.find_below.Given as goal

abbrev pub invariant-loop-name : goal.invariant-loop-name
invariant-loop-name l = node_at l.node (drop (length l.yielded) (slice_split is_slash l.names)) ≡ node_at l.self (slice_split is_slash l.names)
