use Rattle.std.proofs.Common.{◌++◌, arith, inr, length-append}
use Rattle.dt_blob.specs.SourceText.{begin_line}
use Rattle.dt_blob.proofs.Lines.{over, length-begin_line}
use Rattle.dt_blob.proofs.printing.put_begin.Goals as goal

pub returns-in_err-check_pieces : goal.returns-in_err-check_pieces
returns-in_err-check_pieces c =
    over c.from_residual.result _ _ (c.args.out.now.items ++ begin_line c.args.depth c.args.name.now) _ c.from_residual.ensures.1 (inr c.in_err-check_pieces.ensures)
    (omega (arith, length-append c.args.out.now.items (begin_line c.args.depth c.args.name.now), length-begin_line c.args.depth c.args.name.now))

pub returns : goal.returns
returns c = (c.in_ok-put_begin_line.ensures, omega (arith, c.in_ok-check_pieces.ensures, length-append c.args.out.now.items (begin_line c.args.depth c.args.name.now), length-begin_line c.args.depth c.args.name.now))
