use Rattle.std.proofs.Common.{◌++◌, arith, inr, length-append}
use Rattle.dt_blob.specs.SourceText.{reserve_line}
use Rattle.dt_blob.proofs.Lines.{over, length-reserve_line}
use Rattle.dt_blob.proofs.printing.put_reserve.Goals as goal

pub returns-in_err-check_pieces : goal.returns-in_err-check_pieces
returns-in_err-check_pieces c =
    over c.from_residual.result _ _ (c.args.out.now.items ++ reserve_line c.args.reserve.now) _ c.from_residual.ensures.1 (inr c.in_err-check_pieces.ensures)
    (omega (arith, length-append c.args.out.now.items (reserve_line c.args.reserve.now), length-reserve_line c.args.reserve.now))

pub returns : goal.returns
returns c = (c.in_ok-put_reserve_line.ensures, omega (arith, c.in_ok-check_pieces.ensures, length-append c.args.out.now.items (reserve_line c.args.reserve.now), length-reserve_line c.args.reserve.now))
