use Rattle.std.proofs.Common.{refl}
use Rattle.dtman_check.specs.Table.Checks.{checks, named_checks}
use Rattle.dtman_check.proofs.table.table.links.part_7.Goals as goal

pub returns : goal.returns
unfolding checks named_checks
returns c = refl
