use Rattle.std.proofs.Common.{sym, ap, ◌∙◌, arith}
use Rattle.std.proofs.lemmas.Grind.{common_steps}
use Rattle.dt_tree.specs.NodeData.{siblings}
use Rattle.dt_tree.proofs.OneNode.{child_at, no_child}
use Rattle.dt_tree.proofs.node.changing.drop_child.Goals as goal

pub remove-requires : goal.remove-requires
remove-requires c = let h = (child_at c.args.name.now c.args.children.now.items c.in-Some.at (grind (arith, common_steps))).in_range in grind (arith, common_steps, h)

pub returns-in-None-clause-dropped : goal.returns-in-None-clause-dropped
returns-in-None-clause-dropped c = (no_child c.args.name.now c.args.children.now.items (grind (arith, common_steps))).dropped

pub returns-in-None-clause-there : goal.returns-in-None-clause-there
returns-in-None-clause-there c = sym (no_child c.args.name.now c.args.children.now.items (grind (arith, common_steps))).absent

pub returns-in-Some-clause-dropped : goal.returns-in-Some-clause-dropped
returns-in-Some-clause-dropped c = ap siblings c.remove.ensures.items ∙ (child_at c.args.name.now c.args.children.now.items c.in-Some.at (grind (arith, common_steps))).dropped

pub returns-in-Some-clause-there : goal.returns-in-Some-clause-there
returns-in-Some-clause-there c = sym (child_at c.args.name.now c.args.children.now.items c.in-Some.at (grind (arith, common_steps))).there
