use Rattle.std.proofs.Common.{◌≡◌, ◌+◌, List, ◌++◌, drop, IfOk, ap, sym, ◌∙◌, subst}
use Rattle.dt_tree.specs.NodeData.{Siblings, NodeData, node_data, siblings}
use Rattle.dt_tree.specs.Sound.{IsSound}
use Rattle.dt_tree.proofs.Collected.{all-next, all-end}
use Rattle.dt_tree.proofs.node.Node.+copy.Goals as goal

pub loop-child-preserved : goal.loop-child-preserved
loop-child-preserved t c =
    let items = c.deref-child-items.result.now in
    let i = c.loop-child.child-index in
    ap (λ (l : List NodeData). l ++ drop (i + 1) items) c.in_ok-push.ensures.items
    ∙ all-next c.loop-child.children.items items i c.child-item.result _ c.loop-child-test.true c.child-item.is c.in_ok-copy.ensures
    ∙ c.loop-child.invariant

pub with_children-requires : goal.with_children-requires
with_children-requires t c =
    let a = c.args.self.now in
    let out = c.loop-child.children.items in
    let items = c.deref-child-items.result.now in
    let kids : out ≡ c.self.inside.children.items = sym (all-end out items c.loop-child.child-index c.loop-child-test.false) ∙ c.loop-child.invariant ∙ c.deref-child-items.ensures.value in
    let whole : node_data a.name a.properties (siblings out) ≡ a = ap (λ (s : Siblings). node_data a.name a.properties s) (ap siblings kids ∙ ap (λ (b : NodeData). b.children) c.self.view_is) in
    subst IsSound (c.self.view_is ∙ sym whole) c.self.invariant

pub returns : goal.returns
returns t c =
    let a = c.args.self.now in
    let out = c.loop-child.children.items in
    let items = c.deref-child-items.result.now in
    let kids : out ≡ c.self.inside.children.items = sym (all-end out items c.loop-child.child-index c.loop-child-test.false) ∙ c.loop-child.invariant ∙ c.deref-child-items.ensures.value in
    let whole : node_data a.name a.properties (siblings out) ≡ a = ap (λ (s : Siblings). node_data a.name a.properties s) (ap siblings kids ∙ ap (λ (b : NodeData). b.children) c.self.view_is) in
    subst (λ (b : NodeData). IfOk c.with_children.result (λ node. node ≡ b)) whole c.with_children.ensures
