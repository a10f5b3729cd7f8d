use Rattle.std.proofs.Common.{◌∙◌, ◌%◌, ap}
use Rattle.std.specs.Option.{option_map}
use Rattle.dtman_check.specs.Table.CheckView.{check_data}
use Rattle.dtman_check.proofs.TableLemmas.{got-copied, in_part}
use Rattle.dtman_check.proofs.table.table.check_at.Goals as goal

pub returns : goal.returns
returns c =
    ap (option_map check_data) (got-copied c.part.result.now (c.args.place % 11) c.get.result c.get.ensures.lookup)
    ∙ in_part c.part.result.now c.args.place c.part.ensures
