use Rattle.std.proofs.Common.{ap, sym, ◌∙◌}
use Rattle.dt_tree.specs.NodeData.{NodeData}
use Rattle.dt_tree.specs.NodeView.{name_bytes}
use Rattle.dt_tree.proofs.node.Node.name_bytes.Goals as goal

pub returns-in-Some : goal.returns-in-Some
returns-in-Some c = c.as_bytes.ensures.value ∙ sym (ap name_bytes c.in-Some.is) ∙ ap (λ (b : NodeData). b.name) c.self.view_is
