use Rattle.std.proofs.Common.{◌≡◌, drop, length}
use Rattle.std.specs.List.{slice_split}
use Rattle.dt_tree.specs.Path.{is_slash}
use Rattle.dt_live.specs.Private.Following.{node_behind}
use Rattle.dt_live.specs.Placed.References.{child_in}
use Rattle.dt_live.proofs.placed.paths.follow.Given as goal

abbrev pub invariant-loop-name : goal.invariant-loop-name
invariant-loop-name l =
    node_behind (child_in l.nodes) l.node (drop (length l.yielded) (slice_split is_slash l.names)) ≡ node_behind (child_in l.nodes) 0 (slice_split is_slash l.names)
