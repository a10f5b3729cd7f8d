use Rattle.std.proofs.Common.{◌<◌, ◌∙◌, ◌++◌, [], length, List, ℕ, sym, ap, subst, arith}
use Rattle.std.specs.List.{flat_map}
use Rattle.std.proofs.lemmas.List.{take_all}
use Rattle.dt_live.specs.Private.Walks.{node_property_at, properties_to}
use Rattle.dt_live.proofs.Each.{Each, each-all}
use Rattle.dt_live.proofs.KidSteps.{own-within, flat-more}
use Rattle.dt_live.proofs.preorder.properties.properties_in_preorder.Goals as goal

pub put_node_properties-requires : goal.put_node_properties-requires
put_node_properties-requires g c k d below =
    let rows = c.args.rows.now in
    let e = c.of.ensures ∙ c.in_ok-by_node.ensures.lists _ in
    each-all (λ i. i < length rows) c.of.result.now (subst (λ (xs : List ℕ). Each (λ i. i < length rows) xs) (sym e) (own-within rows _ (length rows) (length rows) (omega arith))) k d below

pub loop-node-init : goal.loop-node-init
loop-node-init g c = c.new-node_properties.ensures.items

pub of-requires : goal.of-requires
of-requires g c = omega (arith, c.requires.nodes c.loop-node.node-index 0 c.loop-node-test.true, c.in_ok-by_node.ensures.count)

pub loop-node-preserved : goal.loop-node-preserved
loop-node-preserved g c =
    let rows = c.args.rows.now in
    c.in_ok-put_node_properties.ensures
    ∙ ap (λ ps. c.loop-node.node_properties.items ++ flat_map (node_property_at rows) ps) (c.of.ensures ∙ c.in_ok-by_node.ensures.lists _)
    ∙ flat-more (λ n. flat_map (node_property_at rows) (properties_to rows (length rows) n)) c.args.order.now c.loop-node.node-index c.loop-node-test.true [] c.loop-node.node_properties.items c.loop-node.invariant

pub returns : goal.returns
returns g c =
    let rows = c.args.rows.now in
    c.loop-node.invariant ∙ ap (flat_map (λ n. flat_map (node_property_at rows) (properties_to rows (length rows) n))) (take_all c.loop-node.node-index c.args.order.now c.loop-node-test.false)
