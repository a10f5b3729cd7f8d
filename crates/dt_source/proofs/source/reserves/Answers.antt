use Rattle.std.proofs.Common.{Ok, Option, ◌∙◌, ap}
use Rattle.std.proofs.lemmas.Result.{err_from_is_err_and}
use Rattle.dt_text.specs.Expression.Values.{Value}
use Rattle.dt_source.specs.Reading.Whole.{reserves_at}
use Rattle.dt_source.proofs.SourceLoops.{reserves_begin, reserves_more, reserves_end, reserves_fail}
use Rattle.dt_source.proofs.source.reserves.Goals as goal

pub reserves-init : goal.reserves-init
reserves-init c = rw (c.new-list.ensures.items) (reserves_begin c.args.text.now c.args.ts.now)

pub returns-in_err-found : goal.returns-in_err-found
returns-in_err-found c =
    let p = err_from_is_err_and c.from_residual.result c.from_residual.ensures.1 in
    let so_far = c.reserves.invariant in
    record { gives = rw (p.1, p.2) (reserves_fail c.args.text.now so_far.0 c.reserves.left.now c.reserves.list.items c.reserves.first c.in_err-found.field-0.0 (reserves_at c.args.text.now c.args.ts.now) c.in_err-found.ensures.gives so_far.1 so_far.2) }

pub returns-in-None : goal.returns-in-None
returns-in-None c =
    let so_far = c.reserves.invariant in
    let found = c.in_ok-found.ensures.gives ∙ ap (λ (o : Option (Value × Value)). Ok (o, c.in_ok-found.field-0.fault, c.in_ok-found.field-0.rest.now)) c.in-None.is in
    record { gives = rw (c.earlier-first.ensures) (reserves_end c.args.text.now so_far.0 c.reserves.left.now c.reserves.list.items c.reserves.first c.in_ok-found.field-0.fault c.in_ok-found.field-0.rest.now (reserves_at c.args.text.now c.args.ts.now) found so_far.1 so_far.2) }

pub reserves-preserved : goal.reserves-preserved
reserves-preserved c =
    let so_far = c.reserves.invariant in
    let found = c.in_ok-found.ensures.gives ∙ ap (λ (o : Option (Value × Value)). Ok (o, c.in_ok-found.field-0.fault, c.in_ok-found.field-0.rest.now)) c.in-Some.is in
    let less = rw c.in-Some.is at c.in_ok-found.ensures.shorter in
    rw (c.in_ok-push_reserve-in-Some.ensures, c.earlier-first.ensures) (reserves_more c.args.text.now so_far.0 c.reserves.left.now c.reserves.list.items c.reserves.first c.in-Some.values c.in_ok-found.field-0.fault c.in_ok-found.field-0.rest.now (reserves_at c.args.text.now c.args.ts.now) found less so_far.1 so_far.2)
