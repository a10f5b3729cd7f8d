use Rattle.std.proofs.Common.{length, ap, arith}
use Rattle.bus_manager.proofs.ResumedLemmas.{none-open}
use Rattle.bus_manager.proofs.resumed.drop_flights.Goals as goal

pub returns-clause-landed : goal.returns-clause-landed
returns-clause-landed c =
    none-open c.loop-index.core.state.flights (λ d within. c.loop-index.invariant.landed d (omega (arith, within, c.check_flights.ensures, ap length c.loop-index.invariant.plan_is, ap length c.plan.ensures)))
