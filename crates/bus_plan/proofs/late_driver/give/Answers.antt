-- The device gets what it gains.
use Rattle.std.proofs.Common.{arith, refl}
use Rattle.bus_plan.proofs.GainLemmas.{given-at, given-within, given-more}
use Rattle.bus_plan.proofs.late_driver.give.Goals as goal

pub index_mut-requires : goal.index_mut-requires
index_mut-requires c = omega (arith, c.index.ensures, given-within _ _ _ _ _ (given-at _ _ _ _ _ c.loop-gain.invariant.2 c.in-Some.ensures.steps.0))

pub loop-gain-preserved : goal.loop-gain-preserved
loop-gain-preserved c = (
  tt,
  tt,
  given-more _ _ _ _ _ _ _ _ _ (given-at _ _ _ _ _ c.loop-gain.invariant.2 c.in-Some.ensures.steps.0) c.index.ensures refl c.take_driver.ensures c.index_mut.ensures.value,
)
