use Rattle.std.proofs.Common.{◌≡◌, ◌++◌, take}
use Rattle.std.specs.List.{flat_map}
use Rattle.dt_live.specs.Private.Walks.{node_property_at}
use Rattle.dt_live.proofs.preorder.properties.put_node_properties.Given as goal

abbrev pub invariant-loop-place : goal.invariant-loop-place
invariant-loop-place g l = l.node_properties.items ≡ l.fn.node_properties.items ++ flat_map (node_property_at l.rows) (take l.place-index l.places)
