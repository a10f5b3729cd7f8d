use Rattle.std.proofs.Common.{◌+◌, sym, ap, ◌∙◌, arith}
use Rattle.std.proofs.lemmas.Result.{err_from_is_err_and}
use Rattle.dt_patch.proofs.PartValues.{part_fits, part_missing, part_too_long}
use Rattle.dt_patch.proofs.parts.part_of.Goals as goal

pub returns-clause-found : goal.returns-clause-found
returns-clause-found c = record { placed = c.in_ok-place.ensures.placed; own = c.in_ok-place.ensures.own; fits = omega arith }

pub returns-in_err-place-clause-fault : goal.returns-in_err-place-clause-fault
returns-in_err-place-clause-fault c =
    let p = err_from_is_err_and c.from_residual.result c.from_residual.ensures.1 in
    λ d a. rw (p.1, p.2) (part_missing _ (c.args.index + c.args.size) _ (c.in_err-place.ensures.stands d a))

pub returns-clause-fault : goal.returns-clause-fault
returns-clause-fault c = λ d a. part_fits _ c.in_ok-place.place.value.now (c.args.index + c.args.size) (c.in_ok-place.ensures.stands d a) (omega arith)
