use Rattle.dt_live.proofs.PlacedLemmas.RowTables.{table-empty}
use Rattle.dt_live.proofs.placed.table.Table.new.Goals as goal

pub returns-clause-table : goal.returns-clause-table
returns-clause-table g c = table-empty c.new.result.items _ c.new.ensures.items c.new-2.ensures.rows
