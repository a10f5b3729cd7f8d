use Rattle.std.proofs.Common.{◌≡◌, length, take}
use Rattle.std.specs.List.{flat_map}
use Rattle.dt_live.specs.Private.Walks.{node_property_at, properties_to}
use Rattle.dt_live.proofs.preorder.properties.properties_in_preorder.Given as goal

abbrev pub invariant-loop-node : goal.invariant-loop-node
invariant-loop-node g l = l.node_properties.items ≡ flat_map (λ n. flat_map (node_property_at l.rows) (properties_to l.rows (length l.rows) n)) (take l.node-index l.order)
