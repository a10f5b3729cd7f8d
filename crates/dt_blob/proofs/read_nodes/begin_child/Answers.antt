use Rattle.std.proofs.lemmas.Result.{err_from_is_err_and}
use Rattle.dt_blob.proofs.read_nodes.begin_child.Goals as goal

pub returns-in_err-reserve : goal.returns-in_err-reserve
returns-in_err-reserve c =
    let p = err_from_is_err_and c.from_residual-in_err-reserve.result c.from_residual-in_err-reserve.ensures.1 in
    rw (p.1, p.2.0) tt
