use Rattle.dt_live.proofs.BuilderLemmas.Orders.{map-walked}
use Rattle.dt_live.proofs.builder.laws.order_of_siblings.Goals as goal

pub returns : goal.returns
returns c = map-walked
