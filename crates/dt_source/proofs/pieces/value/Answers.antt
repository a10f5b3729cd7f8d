use Rattle.std.proofs.lemmas.Result.{err_from_is_err_and}
use Rattle.dt_source.specs.Reading.Values.{built}
use Rattle.dt_source.proofs.PieceLoops.{value_is, value_fails}
use Rattle.dt_source.proofs.pieces.value.Goals as goal

pub returns-in_err-fault-clause-gives : goal.returns-in_err-fault-clause-gives
returns-in_err-fault-clause-gives c =
    let p = err_from_is_err_and c.from_residual.result c.from_residual.ensures.1 in
    rw (p.1, p.2) (value_fails c.args.language c.args.text.now c.args.ts.now c.in_err-fault.field-0.0 (rw c.new-parts.ensures at c.in_err-fault.ensures.gives))

pub returns-clause-gives : goal.returns-clause-gives
returns-clause-gives c =
    let e = value_is c.args.language c.args.text.now (built c.pieces.new.parts) c.in_ok-fault.fault c.args.ts.now c.in_ok-fault.rest.now (rw c.new-parts.ensures at c.in_ok-fault.ensures.gives) in
    rw (c.in_ok-found.ensures) e
