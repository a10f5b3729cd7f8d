use Rattle.std.proofs.Common.{ap}
use Rattle.std.specs.Vec.Iter.{into_iter_items}
use Rattle.dt_source.specs.Filled.{filled_edit}
use Rattle.dt_source.specs.Tree.{item_view}
use Rattle.dt_source.proofs.FilledViews.{root_filled, extend_filled, reads_from}
use Rattle.dt_source.proofs.filling.fill_item.Goals as goal

pub returns-in-Root : goal.returns-in-Root
returns-in-Root c =
    let fs = into_iter_items c.args.binaries.now in
    let gs = into_iter_items c.fill_body.new.binaries in
    reads_from c.fill_body.result _ gs _ _ (ap (λ i. filled_edit (item_view i) fs) c.in-Root.is) (root_filled c.in-Root.at c.in-Root.body c.fill_body.new.body fs gs c.fill_body.result c.fill_body.ensures)

pub returns-in-Extend : goal.returns-in-Extend
returns-in-Extend c =
    let e = c.in-Extend in
    let fs = into_iter_items c.args.binaries.now in
    let gs = into_iter_items c.fill_body-in-Extend.new.binaries in
    reads_from c.fill_body-in-Extend.result _ gs _ _ (ap (λ i. filled_edit (item_view i) fs) e.is) (extend_filled e.labels e.target e.body c.fill_body-in-Extend.new.body fs gs c.fill_body-in-Extend.result c.fill_body-in-Extend.ensures)
