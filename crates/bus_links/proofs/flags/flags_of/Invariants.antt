use Rattle.std.proofs.Common.{◌≡◌, ◌++◌, drop}
use Rattle.bus_links.specs.Links.{flags}
use Rattle.bus_links.proofs.flags.flags_of.Given as goal

-- the flags so far and those of the devices that are left are all
abbrev pub invariant-loop-device : goal.invariant-loop-device
invariant-loop-device l = l.flags.items ++ flags l.strings (drop l.device-index l.devices) ≡ flags l.strings l.devices
