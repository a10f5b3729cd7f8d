use Rattle.std.proofs.Common.{◌≡◌, ◌-◌, ◌++◌, ◌∷◌, suc, ◌∙◌, ap, length, arith}
use Rattle.std.specs.List.{flat_map}
use Rattle.std.proofs.lemmas.List.{take_all}
use Rattle.dt_live.specs.Private.Lists.{list_of}
use Rattle.dt_live.specs.Private.Walks.{rows_walk}
use Rattle.dt_live.proofs.preorder.walk.+walk.Goals as goal

pub returns : goal.returns
returns t c =
    let kids = list_of c.args.children.now in
    let levels = c.args.levels - 1 in
    let old = c.args.order.now.items in
    let node = c.args.node in
    let at : suc levels ≡ c.args.levels = omega (arith, c.if-levels-eq0.false) in
    c.loop-child.invariant
    ∙ ap (λ ns. old ++ node ∷ flat_map (rows_walk levels kids) ns) (take_all c.loop-child.child-index (kids node) (omega (arith, c.loop-child-test.false, ap length c.of-child-items.ensures)))
    ∙ ap (λ l. old ++ rows_walk l kids node) at
