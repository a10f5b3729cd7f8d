use Rattle.std.proofs.Common.{Some, ap, sym, subst, ◌∙◌, [], ◌∷◌}
use Rattle.std.proofs.lemmas.Result.{err_from_is_err_and}
use Rattle.dt_tree.specs.Path.{path_names}
use Rattle.dt_blob.specs.Token.{begin_node, end_node}
use Rattle.dt_patch.specs.declared.splicing.Span.{Span}
use Rattle.dt_patch.specs.Adding.{IsWithNode}
use Rattle.dt_patch.specs.Private.Cutting.{Comes}
use Rattle.dt_patch.proofs.Found.{then_ordered, then_unordered, told_first}
use Rattle.dt_patch.proofs.adding.growth_plan.Goals as goal

pub plan_of-requires-clause-seen : goal.plan_of-requires-clause-seen
plan_of-requires-clause-seen c = λ tree h. c.in-Ok.ensures.shown tree (c.held_is_shown.ensures c.args.blob.now tree h)

pub returns-clause-plan : goal.returns-clause-plan
returns-clause-plan c = record {
  view = c.in-Ok.view;
  planned = c.in_ok-plan.ensures.plan.is_plan;
  turns = λ tree h.
      subst (λ (s : Span). Comes (IsWithNode (path_names c.args.path.now) c.args.name.now) c.in-Ok.view tree s (begin_node c.args.name.now ∷ end_node ∷ [])) (sym c.in_ok-plan.ensures.plan.same_span)
      (c.in_ok-span.ensures.turns c.args.blob.now tree (c.in-Ok.ensures.shown tree (c.held_is_shown.ensures c.args.blob.now tree h)) h);
}

pub returns-in-Err-clause-fault : goal.returns-in-Err-clause-fault
returns-in-Err-clause-fault c = λ tree h. absurd (c.in-Err.ensures.shown tree (c.held_is_shown.ensures c.args.blob.now tree h))

pub returns-in_err-span-clause-fault : goal.returns-in_err-span-clause-fault
returns-in_err-span-clause-fault c =
    let p = err_from_is_err_and c.from_residual.result c.from_residual.ensures.1 in
    λ tree h. rw (p.1, p.2) (told_first _ _ _ (c.in_err-span.ensures.stands tree (c.in-Ok.ensures.shown tree (c.held_is_shown.ensures c.args.blob.now tree h))))

pub returns-in_err-plan-clause-fault : goal.returns-in_err-plan-clause-fault
returns-in_err-plan-clause-fault c =
    let p = err_from_is_err_and c.from_residual-in_err-plan.result c.from_residual-in_err-plan.ensures.1 in
    λ tree h.
    let s = c.in_ok-span.ensures.stands tree (c.in-Ok.ensures.shown tree (c.held_is_shown.ensures c.args.blob.now tree h)) in
    let f = c.in_err-plan.ensures.fault tree h in
    rw (p.1, p.2) (then_unordered _ _ s f.1 ∙ ap Some (sym f.0))

pub returns-clause-fault : goal.returns-clause-fault
returns-clause-fault c = λ tree h.
    let s = c.in_ok-span.ensures.stands tree (c.in-Ok.ensures.shown tree (c.held_is_shown.ensures c.args.blob.now tree h)) in
    then_ordered _ _ s (c.in_ok-plan.ensures.fault tree h)

pub returns-clause-empty : goal.returns-clause-empty
returns-clause-empty c =
    let same = c.in_ok-plan.ensures.plan.same_span in
    ap (λ (s : Span). s.next) same ∙ c.in_ok-span.ensures.empty ∙ sym (ap (λ (s : Span). s.at) same)
