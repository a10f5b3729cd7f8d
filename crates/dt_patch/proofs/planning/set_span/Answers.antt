use Rattle.std.proofs.Common.{Result, Ok, Err, IsOkAnd, MatchResult, [], sym, ◌∙◌, arith}
use Rattle.std.proofs.lemmas.Result.{err_from_is_err_and}
use Rattle.dt_tree.specs.Path.{path_names}
use Rattle.dt_patch.specs.View.Reaching.{before_node}
use Rattle.dt_patch.proofs.Found.{no_place}
use Rattle.dt_patch.proofs.Sets.{set_new, set_there}
use Rattle.dt_patch.proofs.planning.set_span.Goals as goal

match_ok : {A E : Type 0} (P Q : A → Type 0) (R : E → Type 0) (r : Result A E) → IsOkAnd r P → ((x : A) → P x → Q x) → MatchResult r Q R
match_ok P Q R (Ok x) p f = f x p
match_ok P Q R (Err e) p f = absurd p

pub returns-in_err-node-clause-stands : goal.returns-in_err-node-clause-stands
returns-in_err-node-clause-stands c =
    let p = err_from_is_err_and c.from_residual.result c.from_residual.ensures.1 in
    λ tree v. rw (p.1, p.2) (no_place tree.root c.args.path.now c.args.name.now _ (c.in_err-node.ensures tree v))

pub returns-in-Ok-Some-clause-stands : goal.returns-in-Ok-Some-clause-stands
returns-in-Ok-Some-clause-stands c =
    let placed = rw c.in-Ok-Some.field-0-is at c.in-Ok-Some.ensures.spelled in
    let less = placed.1 in
    λ tree v.
    let n = c.in_ok-node.ensures tree v in
    set_there c.args.view.now tree c.args.path.now c.args.name.now c.in-Ok-Some.place.value.now c.in_ok-node.node n (sym c.is_name.ensures ∙ c.if-not-is_name.false) _
    (sym (rw c.in-Ok-Some.field-0-is at (c.in-Ok-Some.ensures.stands n.node n.stands)))
    (rw c.in-Ok-Some.field-0-is at (c.in-Ok-Some.ensures.reached n.node (before_node tree.root (path_names c.args.path.now)) n.stands n.reached))
    (placed.0) (record { first = omega (arith, less); inside = placed.2 })

pub returns-in-Ok-None-clause-stands : goal.returns-in-Ok-None-clause-stands
returns-in-Ok-None-clause-stands c = λ tree v.
    let n = c.in_ok-node.ensures tree v in
    match_ok _ _ _ c.end_span.result (c.end_span.ensures.stands n.node (before_node tree.root (path_names c.args.path.now)) n.stands n.reached) (λ s e.
    set_new c.args.view.now tree c.args.path.now c.args.name.now [] c.in_ok-node.node n (sym c.is_name.ensures ∙ c.if-not-is_name.false) s
    (sym (rw c.in-Ok-None.field-0-is at (c.in-Ok-None.ensures.stands n.node n.stands))) e)
