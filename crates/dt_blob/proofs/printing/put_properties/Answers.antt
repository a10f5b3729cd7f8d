use Rattle.std.proofs.Common.{◌+◌, ◌++◌, drop, ap, ◌∙◌}
use Rattle.std.proofs.lemmas.List.{drop_all}
use Rattle.dt_blob.specs.SourceText.{property_line, property_lines}
use Rattle.dt_blob.proofs.Lines.{part-over, next-property_line, ended-lines}
use Rattle.dt_blob.proofs.printing.put_properties.Goals as goal

pub returns-in_err-put_property : goal.returns-in_err-put_property
returns-in_err-put_property c =
    let p = c.property-item.result in
    part-over c.from_residual.result _ _ (c.loop-property.out.items ++ property_line c.args.depth p) (property_lines c.args.depth (drop (c.loop-property.property-index + 1) c.args.properties.now)) (c.args.out.now.items ++ property_lines c.args.depth c.args.properties.now)
    c.from_residual.ensures.1 c.in_err-put_property.ensures
    (next-property_line c.loop-property.out.items _ c.args.depth c.args.properties.now c.loop-property.property-index p c.loop-property-test.true c.property-item.is c.loop-property.invariant.left)

pub loop-property-preserved : goal.loop-property-preserved
loop-property-preserved c = record {
  left = ap (λ xs. xs ++ property_lines c.args.depth (drop (c.loop-property.property-index + 1) c.args.properties.now)) c.in_ok-put_property.ensures.0
      ∙ next-property_line c.loop-property.out.items _ c.args.depth c.args.properties.now c.loop-property.property-index c.property-item.result c.loop-property-test.true c.property-item.is c.loop-property.invariant.left;
  fits = rw c.in_ok-put_property.ensures.0 c.in_ok-put_property.ensures.1;
}

pub returns : goal.returns
returns c = ended-lines c.loop-property.out.items _ _ (ap (property_lines c.args.depth) (drop_all c.loop-property.property-index c.args.properties.now c.loop-property-test.false)) c.loop-property.invariant.left c.loop-property.invariant.fits
