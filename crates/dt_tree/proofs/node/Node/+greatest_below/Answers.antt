use Rattle.std.proofs.Common.{◌≡◌, max, List, sym, ◌∙◌, arith}
use Rattle.std.proofs.lemmas.List.{at_drop_all}
use Rattle.dt_tree.specs.NodeData.{NodeData, siblings}
use Rattle.dt_tree.specs.Private.PhandleWalk.{greatest_among}
use Rattle.dt_tree.proofs.node.Node.+greatest_below.Goals as goal

pub returns : goal.returns
returns t c =
    let most = c.loop-child.most in
    let last : most ≡ max most 0 = omega arith in
    last ∙ sym (at_drop_all (λ (l : List NodeData). max most (greatest_among (siblings l))) _ _ c.loop-child-test.false) ∙ c.loop-child.invariant
