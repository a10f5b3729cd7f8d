use Rattle.std.proofs.Common.{◌≡◌, ◌<◌, ◌≤◌, ℕ, false}
use Rattle.bus_manager.specs.Private.BoardEnd.{bound_by_words}
use Rattle.bus_manager.specs.Seen.{sees}
use Rattle.bus_manager.proofs.boarded.bound_devices.Given as goal

abbrev pub invariant-loop-index : goal.invariant-loop-index
invariant-loop-index l = record {
  told : (d : ℕ) → d < l.index → sees l.seen d ≡ bound_by_words l.words d;
  rest : (d : ℕ) → l.index ≤ d → sees l.seen d ≡ false;
}
