use Rattle.std.proofs.Common.{◌∙◌, sym, subst}
use Rattle.std.proofs.lemmas.Result.{on_err_weaker}
use Rattle.dt_blob.specs.Steps.Reading.{Gives, token_of}
use Rattle.dt_blob.proofs.Stepping.{by_word}
use Rattle.dt_blob.proofs.read_token.token.Goals as goal

pub returns-in-1-clause-gives : goal.returns-in-1-clause-gives
returns-in-1-clause-gives c =
    let read = by_word c.args.strings.now c.args.bytes.now c.behind-rest.result.now c.word.result 1
    c.if-bytes-lt4.false c.word.ensures c.in-1.is c.behind-rest.ensures in
    subst (λ r. Gives (λ x. (token_of x.0, x.1.now)) c.begin.result r) (sym read) c.begin.ensures.gives

pub returns-in-2-clause-gives : goal.returns-in-2-clause-gives
returns-in-2-clause-gives c =
    by_word c.args.strings.now c.args.bytes.now c.behind-rest.result.now c.word.result 2
    c.if-bytes-lt4.false c.word.ensures c.in-2.is c.behind-rest.ensures

pub returns-in-3-clause-gives : goal.returns-in-3-clause-gives
returns-in-3-clause-gives c =
    let read = by_word c.args.strings.now c.args.bytes.now c.behind-rest.result.now c.word.result 3
    c.if-bytes-lt4.false c.word.ensures c.in-3.is c.behind-rest.ensures in
    subst (λ r. Gives (λ x. (token_of x.0, x.1.now)) c.property.result r) (sym read) c.property.ensures.gives

pub returns-in-4-clause-gives : goal.returns-in-4-clause-gives
returns-in-4-clause-gives c =
    by_word c.args.strings.now c.args.bytes.now c.behind-rest.result.now c.word.result 4
    c.if-bytes-lt4.false c.word.ensures c.in-4.is c.behind-rest.ensures

pub returns-in-9-clause-gives : goal.returns-in-9-clause-gives
returns-in-9-clause-gives c =
    by_word c.args.strings.now c.args.bytes.now c.behind-rest.result.now c.word.result 9
    c.if-bytes-lt4.false c.word.ensures c.in-9.is c.behind-rest.ensures

pub returns-in-1-clause-none : goal.returns-in-1-clause-none
returns-in-1-clause-none c =
    let read = by_word c.args.strings.now c.args.bytes.now c.behind-rest.result.now c.word.result 1
    c.if-bytes-lt4.false c.word.ensures c.in-1.is c.behind-rest.ensures in
    on_err_weaker c.begin.result (λ n. read ∙ n) c.begin.ensures.none

pub returns-in-3-clause-none : goal.returns-in-3-clause-none
returns-in-3-clause-none c =
    let read = by_word c.args.strings.now c.args.bytes.now c.behind-rest.result.now c.word.result 3
    c.if-bytes-lt4.false c.word.ensures c.in-3.is c.behind-rest.ensures in
    on_err_weaker c.property.result (λ n. read ∙ n) c.property.ensures.none
