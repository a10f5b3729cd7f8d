use Rattle.std.proofs.Common.{◌≡◌, ◌+◌, true, [], drop, length}
use Rattle.dt_live.specs.ByRow.{has_all_rows}
use Rattle.dt_live.specs.Rows.{IsLiveTree, state_of}
use Rattle.dt_live.specs.Flattened.{lists}
use Rattle.dt_tree.specs.Steps.{fold}
use Rattle.dt_overlay.specs.Private.Merging.{AreKept}
use Rattle.dt_overlay.proofs.Lawful.{IsLawful}
use Rattle.dt_overlay.proofs.Folded.{merged_one}
use Rattle.dt_overlay.proofs.merging.merge_fragments.Given as goal

abbrev pub invariant-loop-fragment : goal.invariant-loop-fragment
invariant-loop-fragment l = record {
  room : length l.base_nodes.items ≡ length l.patched.live.nodes.items + 1;
  sound : IsLiveTree l.live;
  kept : AreKept l.fn.live l.live;
  rows : has_all_rows l.live ≡ true;
  labels : (state_of l.live).labels ≡ [];
  lawful : IsLawful (lists l.live);
  rest : fold (merged_one l.fn.live l.patched) (drop l.fragment-index l.list) (lists l.live) ≡ fold (merged_one l.fn.live l.patched) l.list (lists l.fn.live);
}
