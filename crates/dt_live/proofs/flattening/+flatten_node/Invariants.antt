use Rattle.std.proofs.Common.{◌≡◌, drop}
use Rattle.dt_tree.specs.NodeData.{siblings}
use Rattle.dt_live.specs.ByRow.{KeepsRows}
use Rattle.dt_live.specs.Rows.{IsLiveTree, node_path, state_of}
use Rattle.dt_live.specs.Flattened.{lists}
use Rattle.dt_live.specs.Private.Flattening.{with_siblings, with_tree}
use Rattle.dt_live.proofs.Steps.{AreKept}
use Rattle.dt_live.proofs.flattening.+flatten_node.Given as goal

abbrev pub invariant-loop-child : goal.invariant-loop-child
invariant-loop-child l = record {
  sound : IsLiveTree l.live;
  kept : AreKept l.fn.live l.live;
  rows : KeepsRows l.fn.live l.live;
  labels : (state_of l.live).labels ≡ (state_of l.fn.live).labels;
  rest : with_siblings (node_path l.fn.live l.number) (siblings (drop l.child-index l.child-items)) (lists l.live) ≡ with_tree (node_path l.fn.live l.number) l.node (lists l.fn.live);
}
