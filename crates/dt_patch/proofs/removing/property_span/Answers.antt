use Rattle.std.proofs.Common.{arith}
use Rattle.std.proofs.lemmas.Result.{err_from_is_err_and}
use Rattle.dt_patch.proofs.Cuts.{property_out}
use Rattle.dt_patch.proofs.Found.{is_absent, is_there}
use Rattle.dt_patch.proofs.removing.property_span.Goals as goal

pub returns-in_err-place-clause-stands : goal.returns-in_err-place-clause-stands
returns-in_err-place-clause-stands c =
    let p = err_from_is_err_and c.from_residual.result c.from_residual.ensures.1 in
    λ tree v. rw (p.1, p.2) (is_absent tree.root c.args.path.now c.args.name.now _ (c.in_err-place.ensures.stands tree v))

pub returns-clause-stands : goal.returns-clause-stands
returns-clause-stands c = λ tree v. let p = c.in_ok-place.ensures.stands tree v in is_there tree.root p.node c.args.path.now c.args.name.now _ p.is_path p.there p.value

pub returns-clause-turns : goal.returns-clause-turns
returns-clause-turns c = λ bytes tree v h. property_out c.args.view.now tree c.args.path.now c.args.name.now c.in_ok-place.place (c.in_ok-place.ensures.stands tree v) c.in_ok-place.ensures.placed h.limits

pub returns-clause-inside : goal.returns-clause-inside
returns-clause-inside c =
    let placed = c.in_ok-place.ensures.placed in
    let less = placed.1 in
    record { first = omega (arith, less); inside = placed.2 }
