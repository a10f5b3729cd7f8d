use Rattle.std.proofs.Common.{◌≡◌, None, true, get_or, arith}
use Rattle.std.specs.Prelude.{is_some}
use Rattle.std.proofs.lemmas.Grind.{common_steps}
use Rattle.std.proofs.lemmas.Result.{err_from_is_err_and}
use Rattle.dt_blob.proofs.Tables.{placed-new, placed-large, placed-old}
use Rattle.dt_blob.proofs.strings.place.Goals as goal

pub returns-then-is_some : goal.returns-then-is_some
returns-then-is_some c = λ block size closed table.
    let some : is_some (get_or c.args.places.now c.args.at None) ≡ true = grind (arith, common_steps) in
    placed-old c.args.names.now c.args.places.now block c.args.at c.args.size c.requires.inside c.requires.fits size table some

pub returns-in_err-next : goal.returns-in_err-next
returns-in_err-next c = λ block size closed table.
    let none : get_or c.args.places.now c.args.at None ≡ None = grind (arith, common_steps) in
    let p = err_from_is_err_and c.from_residual.result c.from_residual.ensures.1 in
    rw (p.1, p.2) (c.in_err-next.ensures.0, placed-large c.args.names.now c.args.places.now block c.get-name.result.now c.args.at c.args.size c.requires.inside c.get-name.ensures size table none c.in_err-next.ensures.1)

pub returns : goal.returns
returns c = λ block size closed table.
    let none : get_or c.args.places.now c.args.at None ≡ None = grind (arith, common_steps) in
    placed-new c.args.names.now c.args.places.now c.place_tails.new.places block c.get-name.result.now c.args.at c.args.size c.in_ok-next.next c.check.ensures c.requires.inside c.get-name.ensures size closed table none c.place_tails.ensures c.in_ok-next.ensures.0 c.in_ok-next.ensures.1
