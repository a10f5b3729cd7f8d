use Rattle.std.proofs.Common.{◌≡◌, ◌<◌, ℕ}
use Rattle.bus_core.specs.History.{is_settled}
use Rattle.bus_manager.specs.Seen.{sees}
use Rattle.bus_manager.proofs.resumed.settled_devices.Given as goal

abbrev pub invariant-loop-index : goal.invariant-loop-index
invariant-loop-index l = (d : ℕ) → d < l.index → sees l.settled d ≡ is_settled l.core.state.history d
