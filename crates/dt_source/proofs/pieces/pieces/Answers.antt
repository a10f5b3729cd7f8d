use Rattle.std.proofs.Common.{sym, arith}
use Rattle.std.proofs.lemmas.Result.{err_from_is_err_and}
use Rattle.dt_source.specs.Reading.Values.{built}
use Rattle.dt_source.specs.Reading.Bodies.{pieces_at}
use Rattle.dt_source.specs.Reading.Loops.{into}
use Rattle.dt_source.proofs.PieceLoops.{pieces_begin, pieces_begin_fails, pieces_more, pieces_fail, pieces_end}
use Rattle.dt_source.proofs.pieces.pieces.Goals as goal

pub returns-in_err-first-clause-gives : goal.returns-in_err-first-clause-gives
returns-in_err-first-clause-gives c =
    let p = err_from_is_err_and c.from_residual.result c.from_residual.ensures.1 in
    rw (p.1, p.2) (pieces_begin_fails c.args.language c.args.text.now (built c.args.parts.now) c.args.ts.now c.in_err-first.field-0.0 c.in_err-first.ensures.gives)

pub loop-rest-init : goal.loop-rest-init
loop-rest-init c = record {
  shorter = c.in_ok-first.ensures.shorter;
  so_far = pieces_begin c.args.language c.args.text.now (built c.args.parts.now) (built c.placed.new.parts) c.in_ok-first.first c.args.ts.now c.in_ok-first.left.now c.in_ok-first.ensures.gives;
}

pub returns-in_err-fault-clause-gives : goal.returns-in_err-fault-clause-gives
returns-in_err-fault-clause-gives c =
    let p = err_from_is_err_and c.from_residual-in_err-fault.result c.from_residual-in_err-fault.ensures.1 in
    let so_far = c.loop-rest.invariant.so_far in
    rw (p.1, p.2) (pieces_fail c.args.language c.args.text.now so_far.0 c.loop-rest.left.now (built c.loop-rest.parts) c.loop-rest.first c.in-Some.rest.now c.in_err-fault.field-0.0 (into (built c.args.parts.now) (pieces_at c.args.language c.args.text.now c.args.ts.now)) (sym c.in-Some.ensures.gives) c.in_err-fault.ensures.gives so_far.1 so_far.2)

pub loop-rest-preserved : goal.loop-rest-preserved
loop-rest-preserved c =
    let so_far = c.loop-rest.invariant.so_far in
    record {
      shorter = omega (arith, c.in-Some.ensures.shorter, c.in_ok-fault.ensures.shorter, c.loop-rest.invariant.shorter);
      so_far = rw (c.earlier-first.ensures) (pieces_more c.args.language c.args.text.now so_far.0 c.loop-rest.left.now (built c.loop-rest.parts) c.loop-rest.first c.in-Some.rest.now (built c.placed-in-Some.new.parts) c.in_ok-fault.fault c.in_ok-fault.after.now (into (built c.args.parts.now) (pieces_at c.args.language c.args.text.now c.args.ts.now)) (sym c.in-Some.ensures.gives) c.in_ok-fault.ensures.gives (omega (arith, c.in-Some.ensures.shorter, c.in_ok-fault.ensures.shorter)) so_far.1 so_far.2);
    }

pub returns-clause-gives : goal.returns-clause-gives
returns-clause-gives c =
    let so_far = c.loop-rest.invariant.so_far in
    pieces_end c.args.language c.args.text.now so_far.0 c.loop-rest.left.now (built c.loop-rest.parts) c.loop-rest.first (into (built c.args.parts.now) (pieces_at c.args.language c.args.text.now c.args.ts.now)) (sym c.in_default.ensures.gives) so_far.1 so_far.2
