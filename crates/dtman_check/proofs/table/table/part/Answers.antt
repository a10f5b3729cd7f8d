use Rattle.std.proofs.Common.{◌≤◌, arith}
use Rattle.dtman_check.proofs.TableLemmas.{no_part}
use Rattle.dtman_check.proofs.table.table.part.Goals as goal

pub returns-in_default : goal.returns-in_default
returns-in_default c =
    let past : 9 ≤ c.args.number = omega arith in
    no_part c.args.number past
