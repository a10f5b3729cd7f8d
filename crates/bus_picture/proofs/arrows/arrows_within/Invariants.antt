use Rattle.std.proofs.Common.{◌≡◌}
use Rattle.std.specs.Prelude.{flat_map}
use Rattle.std.specs.List.{range_with_len}
use Rattle.bus_picture.specs.Arrows.{planned_at}
use Rattle.bus_picture.proofs.arrows.arrows_within.Given as goal

abbrev pub invariant-loop-place : goal.invariant-loop-place
invariant-loop-place l = l.arrows.items ≡ flat_map (planned_at l.plan l.components) (range_with_len 0 l.place)
