use Rattle.std.proofs.Common.{sym, ◌∙◌, arith}
use Rattle.std.proofs.lemmas.Grind.{common_steps}
use Rattle.dt_tree.proofs.OneNode.{property_at, no_property}
use Rattle.dt_tree.proofs.node.changing.drop_property.Goals as goal

pub remove-requires : goal.remove-requires
remove-requires c = let h = (property_at c.args.name.now c.args.properties.now.items c.in-Some.at (grind (arith, common_steps))).in_range in grind (arith, common_steps, h)

pub returns-in-None-clause-dropped : goal.returns-in-None-clause-dropped
returns-in-None-clause-dropped c = (no_property c.args.name.now c.args.properties.now.items (grind (arith, common_steps))).dropped

pub returns-in-None-clause-there : goal.returns-in-None-clause-there
returns-in-None-clause-there c = sym (no_property c.args.name.now c.args.properties.now.items (grind (arith, common_steps))).absent

pub returns-in-Some-clause-dropped : goal.returns-in-Some-clause-dropped
returns-in-Some-clause-dropped c = c.remove.ensures.items ∙ (property_at c.args.name.now c.args.properties.now.items c.in-Some.at (grind (arith, common_steps))).dropped

pub returns-in-Some-clause-there : goal.returns-in-Some-clause-there
returns-in-Some-clause-there c = sym (property_at c.args.name.now c.args.properties.now.items c.in-Some.at (grind (arith, common_steps))).there
