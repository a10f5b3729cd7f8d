use Rattle.std.proofs.Common.{◌≡◌, ◌&&◌, map, drop}
use Rattle.std.specs.List.{find}
use Rattle.dt_tree.specs.PhandleProperties.Table.{is_for, is_read, row_of}
use Rattle.dt_tree.specs.PhandleProperties.View.{asker_data, row_data}
use Rattle.dt_tree.proofs.phandle_properties.Row.of.Given as goal

-- the first of the rows that are left is the first of all
abbrev pub invariant-loop-row : goal.invariant-loop-row
invariant-loop-row l =
    find (λ r. is_read (asker_data l.asker) r.readers r.link && is_for l.name r.pattern) (map row_data (drop l.row-index l.row-items)) ≡ row_of (asker_data l.asker) l.name
