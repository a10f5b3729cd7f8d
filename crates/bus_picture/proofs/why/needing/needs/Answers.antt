use Rattle.bus_picture.proofs.WhyLemmas.WalkLemmas.{order_of}
use Rattle.bus_picture.proofs.why.needing.needs.Goals as goal

pub returns : goal.returns
returns c =
    let walk = c.finish.new.walk
    in order_of c.args.plan.now c.args.device walk.entered.items walk.gone.items walk.path.items walk.left.items
    c.in_ok-finish.ensures.sound (c.in_ok-finish.ensures.from c.args.device c.in_ok-walk.ensures.from) c.in_ok-finish.ensures.ended
