use Rattle.std.proofs.Common.{◌≡◌, ◌≤◌, ℕ, length, slice_index_or, drop}
use Rattle.dt_build.specs.Private.FirstPhandle.{first_phandle}
use Rattle.dt_build.proofs.node_phandles.put_phandles.Given as goal

abbrev pub invariant-back : goal.invariant-back
invariant-back l = record {
  within : l.left ≤ length l.list;
  count : length l.phandles.items ≡ length l.fn.phandles.items;
  list : (n : ℕ) → slice_index_or l.phandles.items n 0 ≡ first_phandle (drop l.left l.list) n (slice_index_or l.fn.phandles.items n 0);
}

abbrev pub decreases-back : goal.decreases-back
decreases-back l = l.left
