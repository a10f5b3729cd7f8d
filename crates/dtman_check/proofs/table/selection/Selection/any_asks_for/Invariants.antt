use Rattle.std.proofs.Common.{◌≡◌, drop}
use Rattle.dtman_check.specs.Table.Selected.{any_asks_for}
use Rattle.dtman_check.proofs.table.selection.Selection.any_asks_for.Given as goal

-- those that are left say it of all
abbrev pub invariant-loop-above : goal.invariant-loop-above
invariant-loop-above l =
    any_asks_for l.least l.self.levels l.place l.above (drop l.above l.self.rows)
    ≡ any_asks_for l.least l.self.levels l.place 0 l.self.rows
