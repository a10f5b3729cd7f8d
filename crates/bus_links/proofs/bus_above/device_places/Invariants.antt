use Rattle.std.proofs.Common.{◌≡◌, ◌++◌, drop}
use Rattle.bus_links.specs.Bindings.LinkNodes.{places_from}
use Rattle.bus_links.proofs.bus_above.device_places.Given as goal

-- the places so far and those of the nodes that are left are all
abbrev pub invariant-loop-place : goal.invariant-loop-place
invariant-loop-place l = l.places.items ++ places_from l.place (drop l.place l.nodes) ≡ places_from 0 l.nodes
