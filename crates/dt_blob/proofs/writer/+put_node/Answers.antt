use Rattle.std.proofs.Common.{rules, ap, arith}
use Rattle.dt_tree.specs.NodeData.{siblings}
use Rattle.dt_blob.specs.Steps.Table.{placed}
use Rattle.dt_blob.specs.Token.{property_tokens, sibling_tokens}
use Rattle.dt_blob.specs.Steps.Written.{tokens_size}
use Rattle.dt_blob.proofs.Walk.{size-node, size-child, begun-node, next-node}
use Rattle.dt_blob.proofs.writer.+put_node.Goals as goal

pub put_properties-requires : goal.put_properties-requires
put_properties-requires t c = omega (arith, size-node c.args.node.now, ap (λ ps. tokens_size (property_tokens ps)) c.properties.ensures)

pub loop-child-init : goal.loop-child-init
loop-child-init t c = record {
  left = begun-node (placed c.args.strings.now) c.args.node.now c.args.out.now.items c.put_begin.new.out.items c.put_properties.new.out.items c.name_bytes.result.now c.properties.result.now (siblings c.children-child-items.result.now)
      c.in_ok-put_begin.ensures c.in_ok-put_properties.ensures c.name_bytes.ensures c.properties.ensures c.children-child-items.ensures.nodes;
  fits = omega (arith, size-node c.args.node.now, ap (λ f. tokens_size (sibling_tokens f)) c.children-child-items.ensures.nodes);
}

pub put_node-requires : goal.put_node-requires
put_node-requires t c = (search rules, omega (arith, size-child c.children-child-items.result.now c.loop-child.child-index c.child-item.result c.loop-child-test.true c.child-item.is, c.loop-child.invariant.fits))

pub loop-child-preserved : goal.loop-child-preserved
loop-child-preserved t c =
    let k = size-child c.children-child-items.result.now c.loop-child.child-index c.child-item.result c.loop-child-test.true c.child-item.is in
    record {
      left = next-node (placed c.args.strings.now) c.children-child-items.result.now c.loop-child.child-index c.child-item.result c.loop-child.out.items c.put_node.new.out.items _ c.loop-child-test.true c.child-item.is c.in_ok-put_node.ensures c.loop-child.invariant.left;
      fits = omega (arith, k, c.loop-child.invariant.fits);
    }
