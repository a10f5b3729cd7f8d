use Rattle.std.proofs.Common.{◌∙◌, List, subst}
use Rattle.dtman_check.specs.declared.table.reference.Row.{Row}
use Rattle.dtman_check.specs.declared.table.reference.RowRange.{RowRange}
use Rattle.dtman_check.specs.Table.Private.Reference.{AreRowsOf}
use Rattle.dtman_check.proofs.RowLemmas.{range-rows}
use Rattle.dtman_check.proofs.table.reference.Reference.places_of.Goals as goal

pub returns : goal.returns
returns c =
    let range : RowRange = record { first = c.count_before.result; end = c.count_with.result } in
    subst (λ (rows : List Row). AreRowsOf rows c.args.compatible.now range) (c.as_slice-rows.ensures.value ∙ c.self.view_is)
    (range-rows c.as_slice-rows.result.now c.args.compatible.now range c.count_before.ensures c.count_with.ensures)
