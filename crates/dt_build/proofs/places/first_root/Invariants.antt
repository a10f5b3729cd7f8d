use Rattle.std.proofs.Common.{◌≡◌, drop}
use Rattle.dt_build.specs.Places.{first_root}
use Rattle.dt_build.proofs.places.first_root.Given as goal

abbrev pub invariant-loop-item : goal.invariant-loop-item
invariant-loop-item l = first_root (drop l.item-index l.items) ≡ first_root l.items
