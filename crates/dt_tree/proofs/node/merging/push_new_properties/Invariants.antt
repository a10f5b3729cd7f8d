use Rattle.std.proofs.Common.{◌≡◌, ◌++◌, drop}
use Rattle.dt_tree.specs.NodeData.{property_names}
use Rattle.dt_tree.specs.Private.Merging.{new_properties}
use Rattle.dt_tree.proofs.node.merging.push_new_properties.Given as goal

abbrev pub invariant-loop-property : goal.invariant-loop-property
invariant-loop-property l =
    l.merged.items ++ new_properties (property_names l.fn.ours) (drop l.property-index l.theirs) ≡ l.initial.merged.items ++ new_properties (property_names l.fn.ours) l.theirs
