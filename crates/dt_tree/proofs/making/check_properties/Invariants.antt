use Rattle.std.proofs.Common.{◌≡◌, drop}
use Rattle.dt_tree.specs.NodeData.{property_names}
use Rattle.dt_tree.specs.Name.{are_names}
use Rattle.dt_tree.proofs.making.check_properties.Given as goal

abbrev pub invariant-loop-property : goal.invariant-loop-property
invariant-loop-property l = are_names (property_names (drop l.property-index l.properties)) ≡ are_names (property_names l.properties)
