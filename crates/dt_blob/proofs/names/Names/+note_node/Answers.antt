use Rattle.std.proofs.Common.{◌+◌, drop, ap, sym, ◌∙◌}
use Rattle.dt_tree.specs.NodeData.{siblings, property_names}
use Rattle.dt_blob.specs.Blob.{names_in}
use Rattle.dt_blob.specs.Steps.Table.{with_sights}
use Rattle.dt_blob.specs.Token.{sibling_tokens}
use Rattle.dt_blob.proofs.Walk.{sights-node, sights-child}
use Rattle.dt_blob.proofs.names.Names.+note_node.Goals as goal

pub loop-child-init : goal.loop-child-init
loop-child-init t c =
    let self = c.args.self.now in
    ap (λ ks. with_sights ks (names_in (sibling_tokens (siblings c.children-child-items.result.now)))) (c.in_ok-note_properties.ensures ∙ ap (λ ps. with_sights self (property_names ps)) c.properties.ensures)
    ∙ ap (λ s. with_sights (with_sights self (property_names c.args.node.now.properties)) (names_in (sibling_tokens s))) c.children-child-items.ensures.nodes
    ∙ sym (sights-node self c.args.node.now)

pub loop-child-preserved : goal.loop-child-preserved
loop-child-preserved t c =
    let items = c.children-child-items.result.now in
    ap (λ ks. with_sights ks (names_in (sibling_tokens (siblings (drop (c.loop-child.child-index + 1) items))))) c.in_ok-note_node.ensures
    ∙ sym (sights-child c.loop-child.self items c.loop-child.child-index c.child-item.result c.loop-child-test.true c.child-item.is)
    ∙ c.loop-child.invariant
