use Rattle.std.proofs.Common.{◌≡◌, ◌≤◌, ◌||◌, ℕ, true, false, length, slice_index_or}
use Rattle.dt_source.specs.TreeMeaning.Paths.{is_listed}
use Rattle.dt_source.specs.TreeMeaning.Resolved.{fronts}
use Rattle.dt_live.specs.Rows.{is_standing, node_path}
use Rattle.dt_build.proofs.local_nodes.mark.Given as goal

abbrev pub invariant-up : goal.invariant-up
invariant-up l = record {
  known : l.at ≤ length l.draft.live.nodes.items;
  there : is_standing l.draft.live l.at ≡ true;
  count : length l.marks.items ≡ length l.fn.marks.items;
  marks : (k : ℕ) → is_standing l.draft.live k ≡ true → (slice_index_or l.marks.items k false || is_listed (node_path l.draft.live k) (fronts (node_path l.draft.live l.at)))
      ≡ (slice_index_or l.fn.marks.items k false || is_listed (node_path l.draft.live k) (fronts (node_path l.draft.live l.fn.node)));
}

abbrev pub decreases-up : goal.decreases-up
decreases-up l = l.at
