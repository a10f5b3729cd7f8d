use Rattle.std.proofs.Common.{◌≡◌, drop}
use Rattle.dt_tree.specs.NodeData.{property_names}
use Rattle.dt_tree.specs.Sound.{are_distinct}
use Rattle.dt_tree.proofs.few.differ_in_properties.Given as goal

abbrev pub invariant-loop-at : goal.invariant-loop-at
invariant-loop-at l = are_distinct (property_names (drop l.at l.properties)) ≡ are_distinct (property_names l.properties)
