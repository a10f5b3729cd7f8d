use Rattle.bus_picture.specs.Why.Private.Places.{AreFrom}
use Rattle.bus_picture.proofs.why.chain.clear.Given as goal

abbrev pub invariant-loop-device : goal.invariant-loop-device
invariant-loop-device l = AreFrom l.device-index l.places l.devices
