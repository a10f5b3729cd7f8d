use Rattle.std.proofs.Common.{sym, ◌∙◌, subst, Option}
use Rattle.std.proofs.lemmas.Result.{err_from_is_err_and}
use Rattle.dt_tree.specs.NodeData.{NodeData}
use Rattle.dt_blob.specs.Steps.NodeBuilders.{state_of, advance, begun, root_from}
use Rattle.dt_blob.specs.Steps.Reading.{Gives, token_of, token_at, tokens_at}
use Rattle.dt_blob.proofs.Stepping.{leads_begin, leads_fail, leads_end, leads_more, leads_refused, refuse}
use Rattle.dt_blob.proofs.read_nodes.root_in.Goals as goal

pub tokens-init : goal.tokens-init
tokens-init c = leads_begin c.args.is_sized c.args.strings.now c.args.structure.now

pub returns-in_err-next : goal.returns-in_err-next
returns-in_err-next c =
    let p = err_from_is_err_and c.from_residual.result c.from_residual.ensures.1 in
    let strings = c.args.strings.now in
    let all = root_from begun (tokens_at c.args.is_sized strings c.args.structure.now) in
    rw (p.1, p.2) (refuse c.in_err-next.field-0.0.kind (token_at strings c.tokens.rest.now) all (λ n. leads_fail c.args.is_sized strings c.tokens.rest.now (state_of c.tokens.progress) all n c.tokens.invariant) c.in_err-next.ensures.gives)

pub returns-then-is_end : goal.returns-then-is_end
returns-then-is_end c =
    let strings = c.args.strings.now in
    let all = root_from begun (tokens_at c.args.is_sized strings c.args.structure.now) in
    let e = leads_end c.args.is_sized strings c.tokens.rest.now c.in_ok-next.behind.now (token_of c.in_ok-next.next) (state_of c.tokens.progress) all c.in_ok-next.ensures.gives (sym c.is_end.ensures ∙ c.if-is_end.true) c.tokens.invariant in
    subst (λ (o : Option NodeData). Gives (λ (n : NodeData). n) c.finish.result o) e c.finish.ensures

pub returns-in_err-progress : goal.returns-in_err-progress
returns-in_err-progress c =
    let p = err_from_is_err_and c.from_residual-in_err-progress.result c.from_residual-in_err-progress.ensures.1 in
    let strings = c.args.strings.now in
    let all = root_from begun (tokens_at c.args.is_sized strings c.args.structure.now) in
    let state = state_of c.tokens.progress in
    let token = token_of c.in_ok-next.next in
    rw (p.1, p.2) (refuse c.in_err-progress.field-0.0.kind (advance state token) all (λ n. leads_refused c.args.is_sized strings c.tokens.rest.now c.in_ok-next.behind.now token state all c.in_ok-next.ensures.gives (sym c.is_end.ensures ∙ c.if-is_end.false) c.in_ok-next.ensures.shorter n c.tokens.invariant) c.in_err-progress.ensures)

pub tokens-preserved : goal.tokens-preserved
tokens-preserved c =
    let strings = c.args.strings.now in
    let all = root_from begun (tokens_at c.args.is_sized strings c.args.structure.now) in
    leads_more c.args.is_sized strings c.tokens.rest.now c.in_ok-next.behind.now (token_of c.in_ok-next.next) (state_of c.tokens.progress) (state_of c.in_ok-progress.progress) all c.in_ok-next.ensures.gives (sym c.is_end.ensures ∙ c.if-is_end.false) c.in_ok-next.ensures.shorter c.in_ok-progress.ensures c.tokens.invariant
