use Rattle.std.proofs.Common.{◌∙◌, take_all}
use Rattle.dt_tree.proofs.node.copy_properties.Goals as goal

pub returns : goal.returns
returns c = c.loop-property.invariant ∙ take_all _ _ c.loop-property-test.false
