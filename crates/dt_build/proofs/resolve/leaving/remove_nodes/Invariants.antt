use Rattle.std.proofs.Common.{map, take}
use Rattle.dt_live.specs.Rows.{IsLiveTree, node_path}
use Rattle.dt_build.specs.Resolve.Private.Gone.{Leaves}
use Rattle.dt_build.proofs.resolve.leaving.remove_nodes.Given as goal

abbrev pub invariant-loop-node : goal.invariant-loop-node
invariant-loop-node l = record {
  sound : IsLiveTree l.live;
  left : Leaves (map (node_path l.fn.live) (take l.node-index l.gone)) l.fn.live l.live;
}
