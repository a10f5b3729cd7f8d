use Rattle.std.proofs.Common.{◌≡◌, ◌≤◌, slice_index_or}
use Rattle.std.specs.List.{list_any}
use Rattle.dt_live.specs.Rows.{node_path}
use Rattle.dt_live.specs.Flattened.{lists}
use Rattle.dt_overlay.specs.Fixup.PatchedOverlay.{patched_lists}
use Rattle.dt_source.specs.OverlayMeaning.Applied.{clashes}
use Rattle.dt_overlay.specs.Private.Merging.{part_below}
use Rattle.dt_overlay.proofs.PartLists.{values_left}
use Rattle.dt_overlay.proofs.part.find_clash.Given as goal

abbrev pub invariant-loop-at : goal.invariant-loop-at
invariant-loop-at l = record {
  low : l.fn.part.first ≤ l.at;
  high : l.at ≤ l.fn.part.last;
  rest : list_any (clashes (lists l.live).properties) (values_left l.patched l.fn.part.body (node_path l.live (slice_index_or l.base_nodes l.fn.part.body 0)) l.at)
      ≡ list_any (clashes (lists l.live).properties) (part_below (patched_lists l.patched) (node_path l.patched.live l.fn.part.body) (node_path l.live (slice_index_or l.base_nodes l.fn.part.body 0))).properties;
}
