use Rattle.bus_picture.specs.Arrows.{arrows_at}
use Rattle.bus_picture.proofs.RangeLemmas.{listed_more}
use Rattle.bus_picture.proofs.arrows.linked_arrows.Goals as goal

pub loop-place-preserved : goal.loop-place-preserved
loop-place-preserved c =
    listed_more (arrows_at c.args.linked.now)
    c.loop-place.place c.new.result c.loop-place.arrows.items c.add_links.new.arrows.items c.new.ensures c.loop-place.invariant c.in_ok-add_links.ensures
