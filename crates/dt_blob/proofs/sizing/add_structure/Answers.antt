use Rattle.std.proofs.Common.{arith}
use Rattle.std.proofs.lemmas.Result.{err_from_is_err_and, MatchResult-weaker}
use Rattle.dt_blob.specs.Token.{tokens_of}
use Rattle.dt_blob.proofs.Walk.{size-end}
use Rattle.dt_blob.proofs.sizing.add_structure.Goals as goal

pub returns-in_err-size : goal.returns-in_err-size
returns-in_err-size c =
    let p = err_from_is_err_and c.from_residual.result c.from_residual.ensures.1 in
    let s = size-end (tokens_of c.args.root.now) in
    rw (p.1, p.2) (c.in_err-size.ensures.0, omega (arith, s, c.in_err-size.ensures.1))

pub returns : goal.returns
returns c =
    let s = size-end (tokens_of c.args.root.now) in
    MatchResult-weaker c.add_size.result c.add_size.ensures (λ n p. (omega (arith, s, p.0, c.in_ok-size.ensures.0), p.1)) (λ e p. (p.0, omega (arith, s, p.1, c.in_ok-size.ensures.0)))
