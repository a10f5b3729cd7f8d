use Rattle.std.proofs.Common.{◌≡◌, ◌+◌, ℕ, length}
use Rattle.dt_live.specs.Private.Lists.{list_count, list_of}
use Rattle.dt_live.specs.Private.Walks.{children_to}
use Rattle.dt_live.proofs.preorder.children.children.Given as goal

abbrev pub invariant-loop-place : goal.invariant-loop-place
invariant-loop-place l = record {
  count : list_count l.lists ≡ length l.nodes + 1;
  lists : (n : ℕ) → list_of l.lists n ≡ children_to l.nodes l.place n;
}
