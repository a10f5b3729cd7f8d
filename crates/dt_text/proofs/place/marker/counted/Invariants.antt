use Rattle.std.proofs.Common.{◌≡◌, ◌<◌, drop}
use Rattle.dt_text.specs.Place.Positions.{counted}
use Rattle.dt_text.proofs.place.marker.counted.Given as goal

abbrev pub invariant-loop-i : goal.invariant-loop-i
invariant-loop-i l = record { value : counted l.number (drop l.i l.s) ≡ counted 0 l.s; small : l.number < 1000000000 }
