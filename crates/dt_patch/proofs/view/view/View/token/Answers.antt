use Rattle.std.proofs.Common.{refl, arith}
use Rattle.dt_blob.specs.Steps.Reading.{token_of}
use Rattle.dt_blob.proofs.Words.{AreBytes}
use Rattle.dt_patch.proofs.ViewLemmas.Beginnings.{reads, reads_nothing}
use Rattle.dt_patch.proofs.view.view.View.token.Goals as goal

pub returns-in-Ok : goal.returns-in-Ok
returns-in-Ok c =
    let all : AreBytes c.behind-rest.result.now = λ i. omega (arith, c.behind-rest.items_fit i) in
    reads c.args.self.now c.args.from c.behind-rest.result.now c.in-Ok.tail.now (token_of c.in-Ok.token) all c.behind-rest.ensures c.in-Ok.ensures.gives c.in-Ok.ensures.shorter

pub returns-in-Err : goal.returns-in-Err
returns-in-Err c = (reads_nothing c.args.self.now c.args.from c.behind-rest.result.now c.behind-rest.ensures c.in-Err.ensures.none, refl)
