use Rattle.std.proofs.Common.{List, ◌+◌, ◌++◌, take, ap, ◌∙◌}
use Rattle.std.proofs.lemmas.List.{take_rest}
use Rattle.dt_tree.specs.NodeData.{NodeData}
use Rattle.dt_tree.proofs.Collected.{set-parts}
use Rattle.dt_tree.proofs.node.merging.copies_with.Goals as goal

pub returns : goal.returns
returns c =
    let nodes = c.args.nodes.now in
    set-parts nodes c.args.at c.args.node c.push_copies.new.copies.items c.push.new.self.items c.push_copies-2.new.copies.items c.requires
    (c.in_ok-push_copies.ensures ∙ ap (λ (l : List NodeData). l ++ take c.args.at nodes) c.new-copies.ensures.items) c.in_ok-push.ensures.items (c.in_ok-push_copies-2.ensures ∙ ap (λ (l : List NodeData). c.push.new.self.items ++ l) (take_rest nodes (c.args.at + 1)))
