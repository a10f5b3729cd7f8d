use Rattle.std.proofs.Common.{◌≡◌, ◌+◌, ◌<◌, ◌≤◌, ap, sym, arith}
use Rattle.std.proofs.lemmas.List.Elements.{All-weaker, All-same}
use Rattle.dt_tree.specs.NodeData.{NodeData, node_size, siblings, siblings_size}
use Rattle.dt_tree.proofs.SiblingsLemmas.{smaller}
use Rattle.dt_tree.proofs.node.Node.children.Goals as goal

pub returns-clause-smaller : goal.returns-clause-smaller
returns-clause-smaller c =
    let items = c.self.inside.children.items in
    let size_is : node_size c.args.self.now ≡ siblings_size (siblings items) + 1 = ap node_size (sym c.self.view_is) in
    All-same (λ (b : NodeData). node_size b < node_size c.args.self.now) c.as_slice.result.now items c.as_slice.ensures.value
    (All-weaker (λ (b : NodeData). node_size b ≤ siblings_size (siblings items)) (λ (b : NodeData). node_size b < node_size c.args.self.now) (λ b h. omega arith) items (smaller items))
