use Rattle.std.proofs.Common.{sym, ◌∙◌}
use Rattle.bus_kernel.specs.Private.Views.{texts}
use Rattle.bus_kernel.proofs.TablesLemmas.Standing.{none_there, table_there}
use Rattle.bus_kernel.proofs.tables.finding.table_at.Goals as goal

pub returns-then-is_passed : goal.returns-then-is_passed
returns-then-is_passed c = c.is_passed.ensures c.if-is_passed.true

pub returns-then-is_table : goal.returns-then-is_table
returns-then-is_table c =
    table_there _ c.args.place.at c.args.image.now c.behind.result.now (texts c.in_ok-run.run'.strings.items) c.in_ok-run.run'.behind.now
    c.behind.ensures c.in_ok-run.ensures (sym c.is_table.ensures ∙ c.if-is_table.true)

pub returns : goal.returns
returns c =
    none_there _ c.args.place.at c.args.image.now c.behind.result.now (texts c.in_ok-run.run'.strings.items) c.in_ok-run.run'.behind.now
    c.behind.ensures c.in_ok-run.ensures (sym c.is_table.ensures ∙ c.if-is_table.false)
