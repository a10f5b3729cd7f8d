use Rattle.std.proofs.Common.{◌+◌, [], length, take, ap, refl, sym, subst, arith}
use Rattle.std.proofs.lemmas.Result.{err_from_is_err_and}
use Rattle.dt_blob.specs.Strings.{with_names}
use Rattle.dt_blob.specs.Steps.Table.{IsPlacedBehind}
use Rattle.dt_blob.proofs.Lasting.{closed-names, next-names, part-fits}
use Rattle.dt_blob.proofs.Tables.{table-empty}
use Rattle.dt_blob.proofs.strings.place_all.Goals as goal

pub loop-at-init : goal.loop-at-init
loop-at-init c = record { table = table-empty c.args.names.now c.args.places.now c.requires.nowhere; size = refl; fits = omega arith }

pub returns-in_err-size : goal.returns-in_err-size
returns-in_err-size c =
    let names = c.args.names.now in
    let block = with_names [] (take c.loop-at.at names) in
    let e = c.in_err-size.ensures block (sym c.loop-at.invariant.size) (closed-names [] (take c.loop-at.at names) tt) c.loop-at.invariant.table in
    let p = err_from_is_err_and c.from_residual.result c.from_residual.ensures.1 in
    rw (p.1, p.2) (e.0, omega (arith, e.1, ap length (next-names names c.loop-at.at [] (omega arith)), part-fits names (c.loop-at.at + 1)))

pub loop-at-preserved : goal.loop-at-preserved
loop-at-preserved c =
    let names = c.args.names.now in
    let block = with_names [] (take c.loop-at.at names) in
    subst (λ b. IsPlacedBehind names c.place.new.places b c.in_ok-size.size) (sym (next-names names c.loop-at.at [] (omega arith)))
    (c.in_ok-size.ensures block (sym c.loop-at.invariant.size) (closed-names [] (take c.loop-at.at names) tt) c.loop-at.invariant.table)
