use Rattle.std.proofs.Common.{None, Ok, Option, Bool, ◌∙◌, ap}
use Rattle.std.proofs.lemmas.Result.{err_from_is_err_and}
use Rattle.dt_text.specs.declared.lexeme.lexeme.Fault.{Fault}
use Rattle.dt_source.specs.Reading.Whole.{headers_at}
use Rattle.dt_source.proofs.SourceLoops.{headers_begin, headers_more, headers_end, headers_fail}
use Rattle.dt_source.proofs.source.headers.Goals as goal

abbrev none : Option Fault
none = None

pub headers-init : goal.headers-init
headers-init c = headers_begin c.args.ts.now

pub returns-in_err-found : goal.returns-in_err-found
returns-in_err-found c =
    let p = err_from_is_err_and c.from_residual.result c.from_residual.ensures.1 in
    let so_far = c.headers.invariant in
    record { gives = rw (p.1, p.2) (headers_fail so_far.0 c.headers.left.now c.headers.plugin c.in_err-found.field-0.0 (headers_at c.args.ts.now) c.in_err-found.ensures.gives so_far.1 so_far.2) }

pub returns-in-None : goal.returns-in-None
returns-in-None c =
    let so_far = c.headers.invariant in
    let found = c.in_ok-found.ensures.gives ∙ ap (λ (o : Option Bool). Ok (o, none, c.in_ok-found.rest.now)) c.in-None.is in
    record { gives = headers_end so_far.0 c.headers.left.now c.headers.plugin c.in_ok-found.rest.now (headers_at c.args.ts.now) found so_far.1 so_far.2 }

pub headers-preserved : goal.headers-preserved
headers-preserved c =
    let so_far = c.headers.invariant in
    let found = c.in_ok-found.ensures.gives ∙ ap (λ (o : Option Bool). Ok (o, none, c.in_ok-found.rest.now)) c.in-Some.is in
    let less = rw c.in-Some.is at c.in_ok-found.ensures.shorter in
    rw (c.more_headers-plugin.ensures) (headers_more so_far.0 c.headers.left.now c.headers.plugin c.in-Some.said c.in_ok-found.rest.now (headers_at c.args.ts.now) found less so_far.1 so_far.2)
