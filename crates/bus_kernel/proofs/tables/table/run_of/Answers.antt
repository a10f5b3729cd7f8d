use Rattle.bus_kernel.specs.Private.Views.{texts}
use Rattle.bus_kernel.proofs.TablesLemmas.Standing.{runs_all}
use Rattle.bus_kernel.proofs.tables.table.run_of.Goals as goal

pub returns : goal.returns
returns c =
    runs_all _ c.entry_size-size.result c.args.bytes.now (texts c.loop-string.strings.items) c.loop-string.rest.now
    c.entry_size-size.ensures c.in_default.ensures c.loop-string.invariant
