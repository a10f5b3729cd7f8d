use Rattle.std.proofs.Common.{◌≡◌, drop}
use Rattle.dt_tree.specs.NodeData.{property_names}
use Rattle.dt_tree.specs.Sound.{is_among}
use Rattle.dt_tree.proofs.few.is_property_among.Given as goal

abbrev pub invariant-loop-property : goal.invariant-loop-property
invariant-loop-property l = is_among l.name (property_names (drop l.property-index l.properties)) ≡ is_among l.name (property_names l.properties)
