use Rattle.std.proofs.Common.{arith}
use Rattle.dt_check.proofs.CellLemmas.{cell-bytes}
use Rattle.dt_check.proofs.cells.cell_count.Goals as goal

pub returns : goal.returns
returns c = let bytes = cell-bytes c.args.bytes.now in omega (arith, bytes.0, bytes.1)
