use Rattle.std.proofs.Common.{◌≡◌, ◌<◌, ℕ}
use Rattle.dt_live.specs.Placed.Rows.{place_at}
use Rattle.dt_live.specs.Placed.Tables.{rows_in}
use Rattle.dt_live.proofs.placed.placed_tree.PlacedTree.first_child.Given as goal

-- no row so far is of a child
abbrev pub invariant-loop-row : goal.invariant-loop-row
invariant-loop-row g l = (j : ℕ) → j < l.row → (place_at (rows_in l.self.nodes) j).owner ≡ l.node → ⊥
