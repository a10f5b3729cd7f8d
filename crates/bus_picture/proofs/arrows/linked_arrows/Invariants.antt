use Rattle.std.proofs.Common.{◌≡◌}
use Rattle.std.specs.Prelude.{flat_map}
use Rattle.std.specs.List.{range_with_len}
use Rattle.bus_picture.specs.Arrows.{arrows_at}
use Rattle.bus_picture.proofs.arrows.linked_arrows.Given as goal

abbrev pub invariant-loop-place : goal.invariant-loop-place
invariant-loop-place l = l.arrows.items ≡ flat_map (arrows_at l.linked) (range_with_len 0 l.place)
