use Rattle.std.proofs.Common.{◌≡◌, ◌<◌, ◌++◌, ◌+◌, ℕ, [], true, length, map, slice_index_or}
use Rattle.std.specs.Prelude.{All}
use Rattle.dt_source.specs.TreeMeaning.References.{held}
use Rattle.dt_live.specs.Rows.{is_standing, node_path}
use Rattle.dt_live.specs.Builder.Lists.{defined_at}
use Rattle.dt_build.specs.Private.LocalFixups.{local_definitions, local_path}
use Rattle.dt_build.proofs.local_nodes.local_lists.Given as goal

abbrev pub invariant-loop-one : goal.invariant-loop-one
invariant-loop-one l = record {
  count : length l.lists.items ≡ length l.draft.live.nodes.items + 1;
  places : All (λ x. x.property < length l.draft.in_preorder.properties.items) l.one-iterator.rest.items;
  lists : (k : ℕ) → is_standing l.draft.live k ≡ true
      → defined_at (local_path (node_path l.draft.live k)) (slice_index_or (map (λ list. list.items) l.lists.items) k []) ++ held (local_definitions l.draft l.one-iterator.rest.items) (local_path (node_path l.draft.live k))
      ≡ held (local_definitions l.draft l.fn.locals.items) (local_path (node_path l.draft.live k));
}
