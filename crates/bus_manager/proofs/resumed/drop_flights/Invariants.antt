use Rattle.std.proofs.Common.{◌≡◌, ◌<◌, ℕ, false}
use Rattle.bus_core.specs.CoreState.{is_in_flight}
use Rattle.bus_manager.proofs.resumed.drop_flights.Given as goal

abbrev pub invariant-loop-index : goal.invariant-loop-index
invariant-loop-index l = record {
  plan_is : l.core.plan ≡ l.initial.core.plan;
  history_is : l.core.state.history ≡ l.initial.core.state.history;
  landed : (d : ℕ) → d < l.index → is_in_flight l.core.state d ≡ false;
}
