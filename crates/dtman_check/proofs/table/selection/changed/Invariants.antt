use Rattle.std.proofs.Common.{◌≡◌, ◌++◌, drop}
use Rattle.dtman_check.specs.Table.Selected.{changed_from}
use Rattle.dtman_check.proofs.table.selection.changed.Given as goal

-- what is there so far and what is left is the whole
abbrev pub invariant-loop-place : goal.invariant-loop-place
invariant-loop-place l = l.new.items ++ changed_from l.rows l.change l.place (drop l.place l.levels) ≡ changed_from l.rows l.change 0 l.levels
