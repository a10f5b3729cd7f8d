use Rattle.std.proofs.Common.{◌++◌, length, ap, arith, inr, length-append}
use Rattle.dt_blob.specs.SourceText.{property_line, value_part}
use Rattle.dt_blob.proofs.Texts.{part-shorter}
use Rattle.dt_blob.proofs.Lines.{over, length-property_line}
use Rattle.dt_blob.proofs.printing.put_property.Goals as goal

pub returns-in_err-check_pieces : goal.returns-in_err-check_pieces
returns-in_err-check_pieces c =
    let p = c.args.property.now in
    over c.from_residual.result _ _ (c.args.out.now.items ++ property_line c.args.depth p) _ c.from_residual.ensures.1 (inr c.in_err-check_pieces.ensures)
    (omega (arith, length-append c.args.out.now.items (property_line c.args.depth p), length-property_line c.args.depth p, part-shorter p.value, ap length c.as_slice-value.ensures))

pub returns-in_err-check_pieces-2 : goal.returns-in_err-check_pieces-2
returns-in_err-check_pieces-2 c =
    let p = c.args.property.now in
    over c.from_residual-in_err-check_pieces-2.result _ _ (c.args.out.now.items ++ property_line c.args.depth p) _ c.from_residual-in_err-check_pieces-2.ensures.1 (inr c.in_err-check_pieces-2.ensures)
    (omega (arith, length-append c.args.out.now.items (property_line c.args.depth p), length-property_line c.args.depth p, ap length c.as_bytes-name.ensures.value, ap (λ v. length (value_part v)) c.as_slice-value.ensures))

pub returns : goal.returns
returns c =
    let p = c.args.property.now in
    (c.in_ok-put_property_line.ensures, omega (arith, c.in_ok-check_pieces-2.ensures, length-append c.args.out.now.items (property_line c.args.depth p), length-property_line c.args.depth p, ap length c.as_bytes-name.ensures.value, ap (λ v. length (value_part v)) c.as_slice-value.ensures))
