use Rattle.std.proofs.Common.{◌≡◌, ◌&&◌, drop}
use Rattle.dt_tree.specs.NodeData.{property_names}
use Rattle.dt_tree.specs.Private.Seen.{are_fresh}
use Rattle.dt_tree.specs.Sound.{are_distinct}
use Rattle.dt_tree.proofs.making.are_distinct_properties.Given as goal

abbrev pub invariant-loop-property : goal.invariant-loop-property
invariant-loop-property l = (are_distinct (property_names (drop l.property-index l.properties)) && are_fresh l.seen (property_names (drop l.property-index l.properties))) ≡ are_distinct (property_names l.properties)
