use Rattle.std.proofs.Common.{◌≡◌, ℕ, ◌<◌, length, get_or}
use Rattle.bus_plan.proofs.reach.components.places.Given as goal

abbrev pub invariant-loop-place : goal.invariant-loop-place
invariant-loop-place l = record {
  long : length l.places.items ≡ l.place;
  same : (d : ℕ) → d < l.place → get_or l.places.items d 0 ≡ d;
}
