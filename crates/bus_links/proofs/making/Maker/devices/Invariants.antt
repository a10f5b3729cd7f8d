use Rattle.std.proofs.Common.{◌≡◌, ◌++◌, drop}
use Rattle.bus_links.specs.Links.{made_from}
use Rattle.bus_links.proofs.making.Maker.devices.Given as goal

-- the devices so far and what those that are left make are all
abbrev pub invariant-loop-own : goal.invariant-loop-own
invariant-loop-own l =
    l.made.items ++ made_from l.self.nodes.now l.self.early.now l.self.buses.now l.places l.own (drop l.own l.devices)
    ≡ made_from l.self.nodes.now l.self.early.now l.self.buses.now l.places 0 l.devices
