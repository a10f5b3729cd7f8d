use Rattle.std.proofs.Common.{◌≡◌, max, List, ap, sym, ◌∙◌, arith}
use Rattle.std.proofs.lemmas.List.{at_drop_all}
use Rattle.dt_tree.specs.NodeData.{NodeData, siblings, height_of}
use Rattle.dt_tree.proofs.node.Node.+height.Goals as goal

pub loop-child-init : goal.loop-child-init
loop-child-init t c =
    let items = c.deref-child-items.result.now in
    let none : max 0 (height_of (siblings items)) ≡ height_of (siblings items) = omega arith in
    none ∙ ap height_of (ap siblings c.deref-child-items.ensures.value ∙ ap (λ (b : NodeData). b.children) c.self.view_is)

pub returns-clause-value : goal.returns-clause-value
returns-clause-value t c =
    let most = c.loop-child.most in
    let last : most ≡ max most 0 = omega arith in
    last ∙ sym (at_drop_all (λ (l : List NodeData). max most (height_of (siblings l))) _ _ c.loop-child-test.false) ∙ c.loop-child.invariant
