use Rattle.std.proofs.Common.{◌≡◌, map, drop}
use Rattle.std.specs.List.{position_from}
use Rattle.dtman_check.specs.Table.CheckView.{check_data}
use Rattle.dtman_check.specs.Table.Selected.{is_called}
use Rattle.dtman_check.proofs.table.selection.place_in.Given as goal

-- none that was passed has the name
abbrev pub invariant-loop-place : goal.invariant-loop-place
invariant-loop-place l =
    position_from (is_called l.name) l.place (map check_data (drop l.place l.rows))
    ≡ position_from (is_called l.name) 0 (map check_data l.rows)
