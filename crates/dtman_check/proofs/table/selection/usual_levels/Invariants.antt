use Rattle.std.proofs.Common.{◌≡◌, ◌++◌, drop}
use Rattle.dtman_check.specs.Table.Selected.{usual_levels}
use Rattle.dtman_check.proofs.table.selection.usual_levels.Given as goal

-- what is there so far and what is left is the whole
abbrev pub invariant-loop-row : goal.invariant-loop-row
invariant-loop-row l = l.levels.items ++ usual_levels (drop l.row-index l.rows) ≡ usual_levels l.rows
