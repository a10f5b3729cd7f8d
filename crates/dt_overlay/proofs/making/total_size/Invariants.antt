use Rattle.std.proofs.Common.{◌≡◌, ◌+◌, ◌-◌, ◌^◌, ◌≤◌, drop, map, min}
use Rattle.dt_live.specs.Builder.Sizes.{size_in}
use Rattle.dt_live.specs.ByRow.{defined_by}
use Rattle.dt_overlay.proofs.making.total_size.Given as goal

abbrev pub invariant-loop-row : goal.invariant-loop-row
invariant-loop-row l = record {
  fits : l.size ≤ 2 ^ 64 - 1;
  rows : l.row-items ≡ l.live.properties.items;
  size : min (l.size + size_in (map (defined_by l.live) (drop l.row-index l.row-items))) (2 ^ 64 - 1) ≡ min (size_in (map (defined_by l.live) l.row-items)) (2 ^ 64 - 1);
}
