use Rattle.std.proofs.Common.{◌<◌, arith, length, refl}
use Rattle.dt_live.proofs.BuilderLemmas.MakingWalk.{some-node}
use Rattle.dt_live.proofs.MakingNodes.{count, first-made, root-row}
use Rattle.dt_live.proofs.MakingLemmas.Runs.{defined, distinct-own, order-of, rest-next}
use Rattle.dt_live.proofs.making.making.make_nodes.Goals as goal

pub new-requires : goal.new-requires
new-requires g c =
    let d = c.args.live.now in
    let y = c.args.in_preorder.now in
    let m = g.M.Values.made c.args.values.now in
    let o = c.requires.order in
    let there : 0 < length y.nodes.items = omega (arith, count (order-of d y m o), some-node m.lists.nodes) in
    distinct-own d y m o _ c.in_ok-properties.properties.items
    (defined d y m o (g.M.Values.bytes_of c.args.values.now) 0 there 0 c.requires.rest 0 (root-row (order-of d y m o)) c.run_of-run.result.now c.run_of-run.ensures
    (g.M.Values.bytes_of c.node_properties.new.values) c.in_ok-properties.properties c.in_ok-properties.ensures.properties)

pub loop-walk-init : goal.loop-walk-init
loop-walk-init g c =
    let d = c.args.live.now in
    let y = c.args.in_preorder.now in
    let m = g.M.Values.made c.args.values.now in
    let o = c.requires.order in
    let old = g.M.Values.bytes_of c.args.values.now in
    let new = g.M.Values.bytes_of c.node_properties.new.values in
    let there : 0 < length y.nodes.items = omega (arith, count (order-of d y m o), some-node m.lists.nodes) in
    let ps = c.in_ok-properties.properties.items in
    record {
      ready = c.in_ok-properties.ensures.ready;
      made = c.in_ok-properties.ensures.made;
      walk = record {
        made = first-made (order-of d y m o) c.new.result ps 1 refl
            (defined d y m o old 0 there 0 c.requires.rest 0 (root-row (order-of d y m o)) c.run_of-run.result.now c.run_of-run.ensures new c.in_ok-properties.properties c.in_ok-properties.ensures.properties)
            c.new.ensures.nodes c.new.ensures.properties c.new.ensures.last_node;
        rest = rest-next d y m o old 0 there 0 c.requires.rest 0 (root-row (order-of d y m o)) c.run_of-run.result.now c.run_of-run.ensures new c.in_ok-properties.properties c.in_ok-properties.ensures.properties _ (omega arith);
      };
    }
