use Rattle.std.proofs.Common.{◌∷◌, [], ◌∙◌, ap}
use Rattle.dt_tree.specs.NodeData.{node_data, siblings}
use Rattle.dt_tree.specs.NodeView.{name_bytes}
use Rattle.dt_live.proofs.BuilderLemmas.Chains.{siblings-append}
use Rattle.dt_live.proofs.builder.node_builder.NodeBuilder.with_child.Goals as goal

pub returns : goal.returns
returns c =
    let self = c.args.self in
    ap (λ xs. node_data (name_bytes self.name) self.properties.items (siblings xs)) c.in_ok-push.ensures.items
    ∙ ap (node_data (name_bytes self.name) self.properties.items) (siblings-append self.children.items (c.args.child ∷ []))
