use Rattle.std.proofs.Common.{◌≡◌, None, replicate}
use Rattle.bus_core.proofs.device_set.DeviceSet.new.Given as goal

abbrev pub invariant-loop-i : goal.invariant-loop-i
invariant-loop-i l = l.places.items ≡ replicate l._i None
