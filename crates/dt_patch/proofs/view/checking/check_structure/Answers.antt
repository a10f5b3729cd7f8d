use Rattle.std.proofs.Common.{◌≡◌, ◌∙◌, sym, subst, Bool, true, false}
use Rattle.std.specs.Result.{MatchResult}
use Rattle.std.proofs.lemmas.Result.{err_from_is_err_and}
use Rattle.dt_blob.specs.Steps.Reading.{token_of, token_at, tokens_at}
use Rattle.dt_patch.specs.declared.view.stages.Stage.TheVariants as stage
use Rattle.dt_patch.specs.View.Private.Stages.{accepts, IsStructureFault}
use Rattle.dt_patch.proofs.ViewLemmas.Goings.{goes_begin, goes_fail, goes_end, goes_more, goes_refused, structure_fault}
use Rattle.dt_patch.proofs.view.checking.check_structure.Goals as goal

pub tokens-init : goal.tokens-init
tokens-init c = goes_begin c.args.is_sized c.args.strings.now c.args.structure.now stage.Before

pub returns-in_err-next : goal.returns-in_err-next
returns-in_err-next c =
    let p = err_from_is_err_and c.from_residual.result c.from_residual.ensures.1 in
    let strings = c.args.strings.now in
    rw (p.1, p.2) (goes_fail c.args.is_sized strings c.tokens.rest.now c.tokens.stage _ c.in_err-next.ensures.none c.tokens.invariant, structure_fault c.in_err-next.field-0.0.kind (token_at strings c.tokens.rest.now) c.in_err-next.ensures.gives)

pub returns-then-is_end : goal.returns-then-is_end
returns-then-is_end c =
    let strings = c.args.strings.now in
    let e = goes_end c.args.is_sized strings c.tokens.rest.now c.in_ok-next.behind.now (token_of c.in_ok-next.next) c.tokens.stage (accepts stage.Before (tokens_at c.args.is_sized strings c.args.structure.now)) c.in_ok-next.ensures.gives (sym c.is_end.ensures ∙ c.if-is_end.true) c.tokens.invariant in
    subst (λ (b : Bool). MatchResult c.finish.result (λ _. b ≡ true) (λ e. (b ≡ false) × IsStructureFault e)) e c.finish.ensures

pub returns-in_err-stage : goal.returns-in_err-stage
returns-in_err-stage c =
    let p = err_from_is_err_and c.from_residual-in_err-stage.result c.from_residual-in_err-stage.ensures.1 in
    let strings = c.args.strings.now in
    rw (p.1, p.2) (
      goes_refused c.args.is_sized strings c.tokens.rest.now c.in_ok-next.behind.now (token_of c.in_ok-next.next) c.tokens.stage _ c.in_ok-next.ensures.gives (sym c.is_end.ensures ∙ c.if-is_end.false) c.in_ok-next.ensures.shorter (c.in_err-stage.ensures.0) c.tokens.invariant,
      c.in_err-stage.ensures.1,
    )

pub tokens-preserved : goal.tokens-preserved
tokens-preserved c =
    goes_more c.args.is_sized c.args.strings.now c.tokens.rest.now c.in_ok-next.behind.now (token_of c.in_ok-next.next) c.tokens.stage c.in_ok-stage.stage _ c.in_ok-next.ensures.gives (sym c.is_end.ensures ∙ c.if-is_end.false) c.in_ok-next.ensures.shorter c.in_ok-stage.ensures c.tokens.invariant
