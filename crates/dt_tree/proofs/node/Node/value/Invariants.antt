use Rattle.std.proofs.Common.{◌≡◌, drop}
use Rattle.dt_tree.specs.PathMap.{value_of}
use Rattle.dt_tree.proofs.node.Node.value.Given as goal

abbrev pub invariant-loop-property : goal.invariant-loop-property
invariant-loop-property l = value_of (drop l.property-index l.property-items) l.name ≡ value_of l.self.properties l.name
