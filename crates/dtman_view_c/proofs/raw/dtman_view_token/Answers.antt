use Rattle.std.proofs.Common.{[], arith, inl, inr}
use Rattle.dt_blob.specs.Steps.Reading.{token_of}
use Rattle.dt_blob.proofs.Words.{AreBytes}
use Rattle.dt_patch.proofs.ViewLemmas.Beginnings.{reads, reads_nothing}
use Rattle.dtman_view_c.proofs.raw.dtman_view_token.Goals as goal

pub returns-in-Ok : goal.returns-in-Ok
returns-in-Ok c =
    let all : AreBytes c.behind-rest.result.now = λ i. omega (arith, c.behind-rest.items_fit i) in
    let read = reads c.args.view.now c.args.at c.behind-rest.result.now c.in-Ok.tail.now (token_of c.in-Ok.token) all c.behind-rest.ensures c.in-Ok.ensures.gives c.in-Ok.ensures.shorter in
    inl (token_of c.in-Ok.token, _, read.spelled, rw c.token_number.ensures at c.numbered.ensures)

pub returns-in-Err : goal.returns-in-Err
returns-in-Err c = inr (λ t a. reads_nothing c.args.view.now c.args.at c.behind-rest.result.now c.behind-rest.ensures c.in-Err.ensures.none t [] a, c.failed.ensures)
