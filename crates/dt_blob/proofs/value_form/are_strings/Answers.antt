use Rattle.std.proofs.Common.{◌<◌, false, sym, ap, arith, ◌∙◌}
use Rattle.std.specs.List.{list_all}
use Rattle.dt_blob.specs.SourceText.{is_printable, are_strings}
use Rattle.dt_blob.proofs.Ends.{lone, unlike, ended_string}
use Rattle.dt_blob.proofs.value_form.are_strings.Goals as goal

pub returns-then-not-are_printable : goal.returns-then-not-are_printable
returns-then-not-are_printable c =
    let found = c.in-Some.ensures.0 in
    unlike false c.loop-end.rest.now c.in-Some.end found.high (λ k h. found.before k (omega arith) h)
    (ap (list_all is_printable) (sym c.first.ensures) ∙ sym c.are_printable.ensures ∙ c.if-not-are_printable.true)
    ∙ c.loop-end.invariant

pub loop-end-preserved : goal.loop-end-preserved
loop-end-preserved c =
    let found = c.in-Some.ensures.0 in
    let some : 0 < c.in-Some.end = omega (arith, c.if-end-eq0.false) in
    ap (are_strings false) c.behind-rest.ensures
    ∙ ended_string c.loop-end.rest.now c.in-Some.end found.high some (λ k h. found.before k (omega arith) h) c.in-Some.ensures.1
    (ap (list_all is_printable) (sym c.first.ensures) ∙ sym c.are_printable.ensures ∙ c.if-not-are_printable.false)
    ∙ c.loop-end.invariant

pub returns : goal.returns
returns c = c.is_empty.ensures ∙ lone c.loop-end.rest.now (λ k h. c.in_default.ensures k (omega arith) h) ∙ c.loop-end.invariant
