use Rattle.std.proofs.Common.{◌≡◌, ◌≤◌, slice_index_or}
use Rattle.dt_live.specs.ByRow.{KeepsRows}
use Rattle.dt_live.specs.Rows.{HasSameNodes, IsLiveTree, node_path, state_of}
use Rattle.dt_live.specs.Flattened.{lists}
use Rattle.dt_overlay.specs.Fixup.PatchedOverlay.{patched_lists}
use Rattle.dt_source.specs.OverlayMeaning.Applied.{with_values}
use Rattle.dt_overlay.specs.Private.Merging.{part_below}
use Rattle.dt_overlay.proofs.PartLists.{values_left}
use Rattle.dt_overlay.proofs.part.set_properties.Given as goal

abbrev pub invariant-loop-at : goal.invariant-loop-at
invariant-loop-at l = record {
  low : l.fn.part.first ≤ l.at;
  high : l.at ≤ l.fn.part.last;
  sound : IsLiveTree l.live;
  kept : HasSameNodes l.fn.live l.live;
  rows : KeepsRows l.fn.live l.live;
  labels : (state_of l.live).labels ≡ (state_of l.fn.live).labels;
  rest : with_values (values_left l.patched l.fn.part.body (node_path l.fn.live (slice_index_or l.base_nodes l.fn.part.body 0)) l.at) (lists l.live).properties
      ≡ with_values (part_below (patched_lists l.patched) (node_path l.patched.live l.fn.part.body) (node_path l.fn.live (slice_index_or l.base_nodes l.fn.part.body 0))).properties (lists l.fn.live).properties;
}
