use Rattle.std.proofs.Common.{◌≡◌, ◌<◌, ◌≤◌, ◌||◌, is_some, length, slice_index_or}
use Rattle.std.specs.List.{list_any}
use Rattle.dt_live.specs.ByRow.{KeepsRows}
use Rattle.dt_live.specs.Rows.{IsLiveTree, node_path, state_of}
use Rattle.dt_source.specs.TreeMeaning.Resolved.{is_too_deep}
use Rattle.dt_live.specs.Flattened.{lists}
use Rattle.dt_overlay.specs.Fixup.PatchedOverlay.{patched_lists}
use Rattle.dt_source.specs.OverlayMeaning.Applied.{with_nodes}
use Rattle.dt_overlay.specs.Private.Merging.{AreKept, AreBaseNodes, IsInside, part_below}
use Rattle.dt_overlay.proofs.PartLists.{nodes_left}
use Rattle.dt_overlay.proofs.part.define_nodes.Given as goal

abbrev pub invariant-loop-node : goal.invariant-loop-node
invariant-loop-node l = record {
  low : l.body < l.node;
  high : l.node ≤ l.node-end;
  sound : IsLiveTree l.live;
  kept : AreKept l.fn.live l.live;
  rows : KeepsRows l.fn.live l.live;
  labels : (state_of l.live).labels ≡ (state_of l.fn.live).labels;
  room : length l.base_nodes ≡ length l.fn.base_nodes;
  inside : IsInside l.patched.live.nodes.items l.body l.node;
  base_nodes : AreBaseNodes l.patched.live l.live (node_path l.fn.live (slice_index_or l.fn.base_nodes l.body 0)) l.body l.node l.base_nodes;
  rest : with_nodes (nodes_left l.patched.live l.body (node_path l.fn.live (slice_index_or l.fn.base_nodes l.body 0)) l.node) (lists l.live).nodes
      ≡ with_nodes (part_below (patched_lists l.patched) (node_path l.patched.live l.body) (node_path l.fn.live (slice_index_or l.fn.base_nodes l.body 0))).nodes (lists l.fn.live).nodes;
  properties : (lists l.live).properties ≡ (lists l.fn.live).properties;
  deep : (is_some l.deep || list_any is_too_deep (nodes_left l.patched.live l.body (node_path l.fn.live (slice_index_or l.fn.base_nodes l.body 0)) l.node))
      ≡ list_any is_too_deep (part_below (patched_lists l.patched) (node_path l.patched.live l.body) (node_path l.fn.live (slice_index_or l.fn.base_nodes l.body 0))).nodes;
}
