use Rattle.std.proofs.Common.{◌≡◌, drop}
use Rattle.dt_live.specs.ByRow.{KeepsRows}
use Rattle.dt_live.specs.Rows.{HasSameNodes, IsLiveTree, node_path, state_of}
use Rattle.dt_live.specs.Flattened.{lists}
use Rattle.dt_live.specs.Private.Flattening.{with_values}
use Rattle.dt_live.proofs.flattening.flatten_properties.Given as goal

abbrev pub invariant-loop-property : goal.invariant-loop-property
invariant-loop-property l = record {
  sound : IsLiveTree l.live;
  kept : HasSameNodes l.fn.live l.live;
  rows : KeepsRows l.fn.live l.live;
  labels : (state_of l.live).labels ≡ (state_of l.fn.live).labels;
  rest : with_values (node_path l.fn.live l.node) (drop l.property-index l.properties) (lists l.live) ≡ with_values (node_path l.fn.live l.node) l.properties (lists l.fn.live);
}
