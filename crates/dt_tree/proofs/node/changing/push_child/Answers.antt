use Rattle.std.proofs.Common.{◌≡◌, [], ◌∷◌, ◌++◌, ap, ◌∙◌, arith}
use Rattle.std.proofs.lemmas.Grind.{common_steps}
use Rattle.dt_tree.specs.NodeData.{siblings, node_data, none}
use Rattle.dt_tree.proofs.OneNode.{pushed}
use Rattle.dt_tree.proofs.node.changing.push_child.Goals as goal

pub returns-clause-pushed : goal.returns-clause-pushed
returns-clause-pushed c =
    let is : c.push.new.self.items ≡ c.args.children.now.items ++ node_data c.args.name [] none ∷ [] = grind (arith, common_steps) in
    ap siblings is ∙ pushed c.args.name c.args.children.now.items
