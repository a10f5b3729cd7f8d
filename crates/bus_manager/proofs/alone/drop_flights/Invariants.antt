use Rattle.std.proofs.Common.{◌≡◌, ◌<◌, ◌≤◌, ◌+◌, ℕ, false}
use Rattle.bus_core.specs.CoreState.{is_in_flight}
use Rattle.bus_manager.specs.Private.Counts.{abandons}
use Rattle.bus_manager.proofs.alone.drop_flights.Given as goal

abbrev pub invariant-loop-index : goal.invariant-loop-index
invariant-loop-index l = record {
  plan_is : l.keeper.plan ≡ l.initial.keeper.plan;
  landed : (d : ℕ) → d < l.index → is_in_flight l.keeper.state d ≡ false;
  few : abandons l.keeper ≤ abandons l.initial.keeper + l.index;
}
