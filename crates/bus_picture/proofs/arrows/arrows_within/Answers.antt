use Rattle.bus_picture.specs.Arrows.{planned_at}
use Rattle.bus_picture.proofs.RangeLemmas.{listed_more}
use Rattle.bus_picture.proofs.arrows.arrows_within.Goals as goal

pub loop-place-preserved : goal.loop-place-preserved
loop-place-preserved c =
    listed_more (planned_at c.args.plan.now c.args.components.now)
    c.loop-place.place c.new.result c.loop-place.arrows.items c.add_suppliers.new.arrows.items c.new.ensures c.loop-place.invariant c.in_ok-add_suppliers.ensures
