use Rattle.std.proofs.Common.{drop}
use Rattle.dt_tree.specs.NodeData.{property_names}
use Rattle.dt_tree.specs.PathMap.{value_of}
use Rattle.dt_tree.proofs.NameMaps.{held, IsReadUpTo}
use Rattle.dtman_blobs.proofs.difference.by_name.values_by_name.Given as goal

abbrev pub invariant-loop-property : goal.invariant-loop-property
invariant-loop-property l = IsReadUpTo property_names value_of (held l.values) (drop l.property-index l.properties) l.properties
