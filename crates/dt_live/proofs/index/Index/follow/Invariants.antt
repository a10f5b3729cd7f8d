use Rattle.std.proofs.Common.{◌≡◌, drop, length}
use Rattle.std.specs.List.{slice_split}
use Rattle.dt_tree.specs.Path.{is_slash}
use Rattle.dt_live.specs.Index.{row_of}
use Rattle.dt_live.specs.Private.Following.{node_behind}
use Rattle.dt_live.proofs.index.Index.follow.Given as goal

abbrev pub invariant-loop-name : goal.invariant-loop-name
invariant-loop-name l =
    node_behind (row_of l.self) l.node (drop (length l.yielded) (slice_split is_slash l.names)) ≡ node_behind (row_of l.self) 0 (slice_split is_slash l.names)
