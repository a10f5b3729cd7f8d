use Rattle.std.proofs.Common.{arith}
use Rattle.dt_blob.proofs.Marks.{run_all, run_marked}
use Rattle.dt_blob.proofs.value_text.split_mark.Goals as goal

pub returns-in_default-clause-text : goal.returns-in_default-clause-text
returns-in_default-clause-text c = run_all c.args.text.now (λ k h. c.in_default.ensures k (omega arith) h)

pub returns-clause-text : goal.returns-clause-text
returns-clause-text c =
    let place = c.in-Some.place in
    let first = c.in-Some.ensures.0 in
    rw (c.first.ensures, c.behind.ensures) (run_marked c.args.text.now place (omega (arith, first.high)) (λ k h. first.before k (omega arith) h))
