use Rattle.std.proofs.Common.{◌≡◌, ◌++◌, drop}
use Rattle.bus_links.specs.Links.{parents_from}
use Rattle.bus_links.proofs.bus_above.parents_of.Given as goal

-- the parents so far and those of the devices that are left are all
abbrev pub invariant-loop-own : goal.invariant-loop-own
invariant-loop-own l =
    l.parents.items ++ parents_from l.nodes l.buses l.places l.own (drop l.own l.devices)
    ≡ parents_from l.nodes l.buses l.places 0 l.devices
