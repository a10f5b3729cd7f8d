use Rattle.std.proofs.Common.{◌≡◌, map, take}
use Rattle.dt_build.specs.Places.{node_place}
use Rattle.dt_build.proofs.places.node_places.Given as goal

abbrev pub invariant-loop-node : goal.invariant-loop-node
invariant-loop-node l = l.places.items ≡ map (node_place l.nodes l.root) (take l.node-index l.order)
