use Rattle.std.proofs.Common.{◌≡◌, ◌*◌, map, take}
use Rattle.dtman_check.specs.Table.Checks.{checks}
use Rattle.dtman_check.specs.Table.CheckView.{check_data}
use Rattle.dtman_check.proofs.table.selection.all_rows.Given as goal

-- the parts so far
abbrev pub invariant-loop-number : goal.invariant-loop-number
invariant-loop-number l = map check_data l.rows.items ≡ take (11 * l.number) checks
