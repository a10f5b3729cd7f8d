use Rattle.std.proofs.Common.{sym, arith}
use Rattle.std.proofs.lemmas.Grind.{common_steps}
use Rattle.dt_tree.proofs.OneNode.{property_at, no_property}
use Rattle.dt_tree.proofs.node.changing.put_property.Goals as goal

pub index_mut-requires : goal.index_mut-requires
index_mut-requires c = let h = (property_at c.args.property.name c.args.properties.now.items c.in-Some.at (grind (arith, common_steps))).in_range in grind (arith, common_steps, h)

pub returns-in_ok-push-in-None-clause-put : goal.returns-in_ok-push-in-None-clause-put
returns-in_ok-push-in-None-clause-put c =
    let h = (no_property c.args.property.name c.args.properties.now.items (grind (arith, common_steps))).put c.args.property.value in grind (arith, common_steps, h)

pub returns-in_ok-push-in-None-clause-there : goal.returns-in_ok-push-in-None-clause-there
returns-in_ok-push-in-None-clause-there c = sym (no_property c.args.property.name c.args.properties.now.items (grind (arith, common_steps))).absent

pub returns-in-Some-clause-put : goal.returns-in-Some-clause-put
returns-in-Some-clause-put c =
    (property_at c.args.property.name c.args.properties.now.items c.in-Some.at (grind (arith, common_steps))).put c.index_mut.result.now c.args.property.value c.index_mut.ensures.value

pub returns-in-Some-clause-there : goal.returns-in-Some-clause-there
returns-in-Some-clause-there c = sym (property_at c.args.property.name c.args.properties.now.items c.in-Some.at (grind (arith, common_steps))).there
