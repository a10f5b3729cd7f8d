use Rattle.std.proofs.Common.{ℕ, Option, Some, None, suc}
use Rattle.dt_live.proofs.PlacedLemmas.Holders.{IsWalked}
use Rattle.dt_live.proofs.placed.placed_tree.PlacedTree.holders.Given as goal

-- the rows that are left
abbrev pub rows_left : Option ℕ → ℕ
rows_left None = 0
rows_left (Some i) = suc i

abbrev pub invariant-rows : goal.invariant-rows
invariant-rows g l = IsWalked l.self l.label l.at l.holders.items

abbrev pub decreases-rows : goal.decreases-rows
decreases-rows g l = rows_left l.at
