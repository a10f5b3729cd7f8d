use Rattle.std.proofs.Common.{◌≡◌, ◌&&◌, ltb, get_or, ℕ, false, length}
use Rattle.bus_plan.specs.Plan.{is_matched}
use Rattle.bus_core.proofs.counts.matched_devices.Given as goal

abbrev pub invariant-loop-index : goal.invariant-loop-index
invariant-loop-index l = record {
  long : length l.due ≡ length l.plan;
  matched : (d : ℕ) → get_or l.due d false ≡ (ltb d l.index && is_matched l.plan d);
}
