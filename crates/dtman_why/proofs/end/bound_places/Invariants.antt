use Rattle.std.proofs.Common.{◌≡◌, ℕ, ◌<◌, false, ◌&&◌, length, get_or}
use Rattle.bus_plan.specs.Plan.{verdict_of}
use Rattle.bus_manager.specs.Notes.{has_note}
use Rattle.dtman_why.specs.End.{does_bind}
use Rattle.dtman_why.proofs.end.bound_places.Given as goal

abbrev pub invariant-loop-place : goal.invariant-loop-place
invariant-loop-place l = record {
  long : length l.bound.items ≡ l.place;
  each : (d : ℕ) → d < l.place → get_or l.bound.items d false ≡ (has_note l.notes d && does_bind (verdict_of l.plan d));
}
