use Rattle.std.proofs.Common.{length, arith, ap}
use Rattle.std.proofs.lemmas.List.{drop_all}
use Rattle.dt_blob.specs.Steps.Table.{placed}
use Rattle.dt_blob.specs.Token.{property_tokens}
use Rattle.dt_blob.specs.Steps.Written.{all_bytes, tokens_size}
use Rattle.dt_blob.proofs.Texts.{nothing-left}
use Rattle.dt_blob.proofs.Walk.{left-property, next-property}
use Rattle.dt_blob.proofs.writer.put_properties.Goals as goal

pub loop-property-preserved : goal.loop-property-preserved
loop-property-preserved c =
    let ps = c.args.properties.now in
    let i = c.loop-property.property-index in
    let p = c.property-item.result in
    record {
      left = next-property (placed c.args.strings.now) ps i p c.loop-property.out.items c.put_value.new.out.items _ c.as_bytes.result.now c.as_slice.result.now c.offset-offset.result c.loop-property-test.true c.property-item.is c.as_bytes.ensures.value c.as_slice.ensures c.offset-offset.ensures.value c.in_ok-put_value.ensures c.loop-property.invariant.left;
      fits = omega (arith, ap tokens_size (left-property ps i p c.loop-property-test.true c.property-item.is), c.loop-property.invariant.fits);
    }

pub put_value-requires : goal.put_value-requires
put_value-requires c = record {
  value = omega (arith, ap tokens_size (left-property c.args.properties.now c.loop-property.property-index c.property-item.result c.loop-property-test.true c.property-item.is), c.loop-property.invariant.fits, ap length c.as_slice.ensures);
  offset = c.offset-offset.ensures.bound;
}

pub returns : goal.returns
returns c = nothing-left c.loop-property.out.items _ _ (ap (λ ps. all_bytes (placed c.args.strings.now) (property_tokens ps)) (drop_all c.loop-property.property-index c.args.properties.now c.loop-property-test.false)) c.loop-property.invariant.left
