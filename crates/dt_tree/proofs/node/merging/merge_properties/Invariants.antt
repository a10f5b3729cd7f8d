use Rattle.std.proofs.Common.{◌≡◌, ◌++◌, map, drop}
use Rattle.dt_tree.specs.Private.Merging.{with_value}
use Rattle.dt_tree.proofs.node.merging.merge_properties.Given as goal

abbrev pub invariant-loop-property : goal.invariant-loop-property
invariant-loop-property l = l.merged.items ++ map (with_value l.theirs) (drop l.property-index l.ours) ≡ map (with_value l.theirs) l.ours
