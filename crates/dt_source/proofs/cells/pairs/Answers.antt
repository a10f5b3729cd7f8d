use Rattle.std.proofs.Common.{None, Ok, Option, ℕ, ◌∙◌, ap, arith}
use Rattle.std.specs.Prelude.{option_map}
use Rattle.std.proofs.lemmas.Result.{err_from_is_err_and}
use Rattle.dt_source.specs.Reading.Bodies.{pairs_at}
use Rattle.dt_source.specs.Reading.Loops.{byte_list}
use Rattle.dt_source.proofs.CellLoops.{pairs_begin, pairs_more, pairs_end, pairs_fail}
use Rattle.dt_source.proofs.cells.pairs.Goals as goal

pub pairs-init : goal.pairs-init
pairs-init c = record { shorter = omega arith; so_far = rw (c.new-bytes.ensures.items) (pairs_begin c.args.text.now c.args.ts.now) }

pub returns-in_err-found-clause-gives : goal.returns-in_err-found-clause-gives
returns-in_err-found-clause-gives c =
    let p = err_from_is_err_and c.from_residual.result c.from_residual.ensures.1 in
    let so_far = c.pairs.invariant.so_far in
    rw (p.1, p.2) (pairs_fail c.args.text.now so_far.0 c.pairs.left.now c.pairs.bytes.items c.in_err-found.field-0.0 (pairs_at c.args.text.now c.args.ts.now) c.in_err-found.ensures.gives so_far.1 so_far.2)

pub returns-in-None-clause-gives : goal.returns-in-None-clause-gives
returns-in-None-clause-gives c =
    let so_far = c.pairs.invariant.so_far in
    let found = c.in_ok-found.ensures.gives ∙ ap (λ (o : Option (Option ℕ)). Ok (option_map byte_list o, None, c.in_ok-found.rest.now)) c.in-None.is in
    pairs_end c.args.text.now so_far.0 c.pairs.left.now c.pairs.bytes.items c.in_ok-found.rest.now (pairs_at c.args.text.now c.args.ts.now) found so_far.1 so_far.2

pub pairs-preserved : goal.pairs-preserved
pairs-preserved c =
    let so_far = c.pairs.invariant.so_far in
    let found = c.in_ok-found.ensures.gives ∙ ap (λ (o : Option (Option ℕ)). Ok (option_map byte_list o, None, c.in_ok-found.rest.now)) c.in-Some.is in
    record {
      shorter = omega (arith, c.in_ok-found.ensures.shorter, c.pairs.invariant.shorter);
      so_far = rw (c.in_ok-push_byte-in-Some.ensures) (pairs_more c.args.text.now so_far.0 c.pairs.left.now c.pairs.bytes.items (byte_list c.in-Some.byte) c.in_ok-found.rest.now (pairs_at c.args.text.now c.args.ts.now) found c.in_ok-found.ensures.shorter so_far.1 so_far.2);
    }
