use Rattle.std.proofs.Common.{◌≡◌, ◌<◌, ◌++◌, ℕ, [], length, get_or, map, drop}
use Rattle.dtman_check.specs.Table.Units.{units_from}
use Rattle.dtman_check.proofs.table.units.units_below.Given as goal

-- those so far and those that are left are all
abbrev pub invariant-loop-place : goal.invariant-loop-place
invariant-loop-place l = record {
  count : length (map (λ list. list.items) l.below.items) ≡ length l.nodes;
  units : (above : ℕ) → above < length l.nodes
      → get_or (map (λ list. list.items) l.below.items) above [] ++ units_from l.counted above l.place (drop l.place l.nodes)
      ≡ units_from l.counted above 0 l.nodes;
}
