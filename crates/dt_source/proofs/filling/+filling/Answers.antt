use Rattle.std.specs.Vec.Iter.{into_iter_items}
use Rattle.dt_source.proofs.FilledViews.{body_gave}
use Rattle.dt_source.proofs.filling.+filling.Goals as goal

pub fill_body-returns : goal.fill_body-returns
fill_body-returns t c =
    body_gave c.args.body.now.items c.fill_statements.new.body.items (into_iter_items c.args.binaries.now) (into_iter_items c.fill_statements.new.binaries) c.fill_statements.result c.fill_statements.ensures
