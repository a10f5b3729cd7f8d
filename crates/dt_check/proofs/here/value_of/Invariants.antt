use Rattle.std.proofs.Common.{◌≡◌, drop}
use Rattle.dt_tree.specs.PathMap.{value_of}
use Rattle.dt_check.proofs.here.value_of.Given as goal

-- the first among the properties that are left is the first of all
abbrev pub invariant-loop-property : goal.invariant-loop-property
invariant-loop-property l = value_of (drop l.property-index l.property-items) l.name ≡ value_of l.node.properties l.name
