use Rattle.std.proofs.Common.{◌≡◌, take}
use Rattle.std.specs.Prelude.{filter}
use Rattle.dt_live.specs.Rows.{is_standing}
use Rattle.dt_build.proofs.resolve.leaving.left_nodes.Given as goal

abbrev pub invariant-loop-node : goal.invariant-loop-node
invariant-loop-node l = l.left.items ≡ filter (is_standing l.live) (take l.node-index l.nodes)
