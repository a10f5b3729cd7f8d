use Rattle.std.proofs.Common.{◌≡◌, drop}
use Rattle.dt_tree.specs.NodeData.{property_names}
use Rattle.dt_blob.specs.Steps.Table.{with_sights}
use Rattle.dt_blob.proofs.names.Names.note_properties.Given as goal

abbrev pub invariant-loop-property : goal.invariant-loop-property
invariant-loop-property l = with_sights l.self (property_names (drop l.property-index l.properties)) ≡ with_sights l.fn.self (property_names l.properties)
