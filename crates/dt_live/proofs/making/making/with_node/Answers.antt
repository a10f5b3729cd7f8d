use Rattle.std.proofs.Common.{ap, arith, refl, ◌∙◌}
use Rattle.dt_tree.specs.Name.{is_name}
use Rattle.dt_live.proofs.MakingNodes.{at, below-root, deep, more-made, next, row-is, row-within}
use Rattle.dt_live.proofs.MakingLemmas.Runs.{defined, distinct-own, order-of, rest-next, run-named}
use Rattle.dt_live.proofs.making.making.with_node.Goals as goal

pub overflow_sub-row : goal.overflow_sub-row
overflow_sub-row g c =
    below-root (order-of c.args.live.now c.args.in_preorder.now _ c.requires.order) c.args.walk.node c.requires.walk.made.root c.requires.more c.index-node.result.now c.index-node.ensures

pub bounds-nodes-node : goal.bounds-nodes-node
bounds-nodes-node g c =
    row-within (order-of c.args.live.now c.args.in_preorder.now _ c.requires.order) c.args.walk.node c.requires.walk.made.root c.requires.more c.index-node.result.now c.index-node.ensures
    c.nodes.result.now c.nodes.ensures

pub lawful_name-requires : goal.lawful_name-requires
lawful_name-requires g c =
    let o = c.requires.order in
    ap (λ x. is_name x.name.now)
    (row-is (order-of c.args.live.now c.args.in_preorder.now _ o) c.args.walk.node c.requires.walk.made.root c.requires.more c.index-node.result.now c.index-node.ensures c.nodes.result.now c.nodes.ensures)
    ∙ o.named_nodes c.args.walk.node c.index-node.result.now c.requires.walk.made.root c.requires.more c.index-node.ensures

pub node_properties-requires-clause-named : goal.node_properties-requires-clause-named
node_properties-requires-clause-named g c =
    let o = c.requires.order in
    let order = order-of c.args.live.now c.args.in_preorder.now _ o in
    let n = c.index-node.result.now in
    let k = c.args.walk.node in
    run-named c.args.live.now c.args.in_preorder.now _ o _ k c.requires.more c.args.walk.property c.requires.walk.rest n (at order k c.requires.walk.made.root c.requires.more n c.index-node.ensures)
    c.run_of-run.result.now c.run_of-run.ensures

pub push-requires-clause-below : goal.push-requires-clause-below
push-requires-clause-below g c =
    omega (arith, c.depth-depth.ensures, deep (order-of c.args.live.now c.args.in_preorder.now _ c.requires.order) c.args.walk.node c.requires.walk.made.root c.requires.more c.index-node.result.now c.index-node.ensures)

pub push-requires-clause-reached : goal.push-requires-clause-reached
push-requires-clause-reached g c =
    (next (order-of c.args.live.now c.args.in_preorder.now _ c.requires.order) c.args.walk.node c.requires.walk.made.root c.requires.more c.index-node.result.now c.index-node.ensures c.args.walk.builder
    c.requires.walk.made c.nodes.result.now c.nodes.ensures c.in_ok-name.name c.in_ok-name.ensures c.depth-depth.result c.depth-depth.ensures).reached

pub push-requires-clause-shallow : goal.push-requires-clause-shallow
push-requires-clause-shallow g c =
    (next (order-of c.args.live.now c.args.in_preorder.now _ c.requires.order) c.args.walk.node c.requires.walk.made.root c.requires.more c.index-node.result.now c.index-node.ensures c.args.walk.builder
    c.requires.walk.made c.nodes.result.now c.nodes.ensures c.in_ok-name.name c.in_ok-name.ensures c.depth-depth.result c.depth-depth.ensures).shallow

pub push-requires-clause-new : goal.push-requires-clause-new
push-requires-clause-new g c =
    (next (order-of c.args.live.now c.args.in_preorder.now _ c.requires.order) c.args.walk.node c.requires.walk.made.root c.requires.more c.index-node.result.now c.index-node.ensures c.args.walk.builder
    c.requires.walk.made c.nodes.result.now c.nodes.ensures c.in_ok-name.name c.in_ok-name.ensures c.depth-depth.result c.depth-depth.ensures).new

pub push-requires-clause-properties : goal.push-requires-clause-properties
push-requires-clause-properties g c =
    let d = c.args.live.now in
    let y = c.args.in_preorder.now in
    let m = g.M.Values.made c.args.values.now in
    let o = c.requires.order in
    let k = c.args.walk.node in
    let n = c.index-node.result.now in
    let here = at (order-of d y m o) k c.requires.walk.made.root c.requires.more n c.index-node.ensures in
    distinct-own d y m o _ c.in_ok-properties.properties.items
    (defined d y m o (g.M.Values.bytes_of c.args.values.now) k c.requires.more c.args.walk.property c.requires.walk.rest n here c.run_of-run.result.now c.run_of-run.ensures
    (g.M.Values.bytes_of c.node_properties.new.values) c.in_ok-properties.properties c.in_ok-properties.ensures.properties)

pub returns-clause-walk : goal.returns-clause-walk
returns-clause-walk g c =
    let d = c.args.live.now in
    let y = c.args.in_preorder.now in
    let m = g.M.Values.made c.args.values.now in
    let o = c.requires.order in
    let old = g.M.Values.bytes_of c.args.values.now in
    let new = g.M.Values.bytes_of c.node_properties.new.values in
    let k = c.args.walk.node in
    let n = c.index-node.result.now in
    let here = at (order-of d y m o) k c.requires.walk.made.root c.requires.more n c.index-node.ensures in
    let ps = c.in_ok-properties.properties.items in
    record {
      made = more-made (order-of d y m o) k c.requires.walk.made.root c.requires.more n c.index-node.ensures c.args.walk.builder c.requires.walk.made c.nodes.result.now c.nodes.ensures
          c.in_ok-name.name c.in_ok-name.ensures c.depth-depth.result c.depth-depth.ensures c.in_ok-push.field-0 ps _ refl
          (defined d y m o old k c.requires.more c.args.walk.property c.requires.walk.rest n here c.run_of-run.result.now c.run_of-run.ensures new c.in_ok-properties.properties c.in_ok-properties.ensures.properties)
          c.in_ok-push.ensures.nodes c.in_ok-push.ensures.last_node;
      rest = rest-next d y m o old k c.requires.more c.args.walk.property c.requires.walk.rest n here c.run_of-run.result.now c.run_of-run.ensures new c.in_ok-properties.properties c.in_ok-properties.ensures.properties _ refl;
    }
