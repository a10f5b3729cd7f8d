use Rattle.std.proofs.Common.{◌≡◌, ℕ}
use Rattle.dt_live.specs.Private.Lists.{list_count, list_of}
use Rattle.dt_live.specs.Private.Walks.{properties_to}
use Rattle.dt_live.proofs.preorder.properties.rows_by_node.Given as goal

abbrev pub invariant-loop-place : goal.invariant-loop-place
invariant-loop-place g l = record {
  count : list_count l.lists ≡ l.count;
  lists : (n : ℕ) → list_of l.lists n ≡ properties_to l.rows l.place n;
}
