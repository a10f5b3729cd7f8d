use Rattle.std.proofs.Common.{◌≡◌, ◌+◌, ℕ, true, false, length, slice_index_or, take}
use Rattle.std.specs.List.{list_any}
use Rattle.dt_source.specs.TreeMeaning.Paths.{is_listed}
use Rattle.dt_source.specs.TreeMeaning.Resolved.{fronts}
use Rattle.dt_live.specs.Rows.{is_standing, node_path}
use Rattle.dt_build.specs.Private.FixupSites.{key_at}
use Rattle.dt_build.proofs.local_nodes.local_marks.Given as goal

abbrev pub invariant-loop-one : goal.invariant-loop-one
invariant-loop-one l = record {
  count : length l.marks.items ≡ length l.draft.live.nodes.items + 1;
  marks : (k : ℕ) → is_standing l.draft.live k ≡ true → slice_index_or l.marks.items k false ≡ list_any (λ x. is_listed (node_path l.draft.live k) (fronts (key_at l.draft x.property).path)) (take l.one-index l.locals);
}
