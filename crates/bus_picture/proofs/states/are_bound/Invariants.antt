use Rattle.std.proofs.Common.{◌≡◌, drop}
use Rattle.std.specs.List.{list_all}
use Rattle.bus_picture.specs.Why.Chain.{bound_by}
use Rattle.bus_picture.proofs.states.are_bound.Given as goal

abbrev pub invariant-loop-device : goal.invariant-loop-device
invariant-loop-device l = list_all (bound_by l.bound) (drop l.device-index l.devices) ≡ list_all (bound_by l.bound) l.devices
