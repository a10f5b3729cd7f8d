use Rattle.std.proofs.Common.{refl, rules, tests, sym, ◌∙◌, arith, length, ◌++◌}
use Rattle.std.specs.List.{slice_split}
use Rattle.std.proofs.lemmas.List.{length_push}
use Rattle.std.proofs.lemmas.Iterator.Consumers.{YieldsList-turn, YieldsList-end}
use Rattle.std.proofs.lemmas.Iterator.Splits.{YieldsList-from_slice_split}
use Rattle.dt_tree.specs.Path.{is_slash}
use Rattle.dt_tree.specs.PathMap.{node_at}
use Rattle.dt_tree.proofs.Descent.{node_at-end}
use Rattle.dt_patch.proofs.ViewLemmas.Names.{leads_none, leads_some}
use Rattle.dt_patch.specs.View.Reaching.{before_node}
use Rattle.dt_patch.proofs.ViewLemmas.Reaches.{leading_end, leading_some}
use Rattle.dt_patch.proofs.view.view.View.find_below.Goals as goal

pub loop-name-init : goal.loop-name-init
loop-name-init c = record {
  leads = λ d a. (d, a, refl);
  leading = λ d before a r. record { node = d; stands = a; before = before; reached = r; is = refl };
}

pub returns-in_err-child-clause-found : goal.returns-in_err-child-clause-found
returns-in_err-child-clause-found c = λ d a. let l = c.loop-name.invariant.leads d a in absurd (c.in_err-child.ensures.stands (l.0) (l.1))

pub returns-in-None-2-clause-found : goal.returns-in-None-2-clause-found
returns-in-None-2-clause-found c =
    let turn = YieldsList-turn (YieldsList-from_slice_split {s = c.into_iter-name-iterator.result} _ is_slash c.args.names.now (cc) (cc) (cc) (λ x r q k. search (rules, tests)))
    c.loop-name.yielded _ c.loop-name.yielded_by _ c.next.new.self c.in-Some.name c.in-Some.is c.next.ensures.steps in
    λ d a. leads_none c.args.self.now c.loop-name.node.at (length c.loop-name.yielded) (slice_split is_slash c.args.names.now) c.in-Some.name.now (node_at d (slice_split is_slash c.args.names.now)) turn (λ e s. rw c.in-None-2.is at (c.in_ok-child.ensures.stands e s)) (c.loop-name.invariant.leads d a)

pub loop-name-preserved : goal.loop-name-preserved
loop-name-preserved c =
    let turn = YieldsList-turn (YieldsList-from_slice_split {s = c.into_iter-name-iterator.result} _ is_slash c.args.names.now (cc) (cc) (cc) (λ x r q k. search (rules, tests)))
    c.loop-name.yielded _ c.loop-name.yielded_by _ c.next.new.self c.in-Some.name c.in-Some.is c.next.ensures.steps in
    record {
      leads = λ d a. rw length_push (leads_some c.args.self.now c.loop-name.node.at (length c.loop-name.yielded) (slice_split is_slash c.args.names.now) c.in-Some.name.now (node_at d (slice_split is_slash c.args.names.now)) c.in-Some-2.child turn (λ e s. rw c.in-Some-2.is at (c.in_ok-child.ensures.stands e s)) (c.loop-name.invariant.leads d a));
      leading = λ d before a r. rw length_push (leading_some c.args.self.now c.loop-name.node.at (length c.loop-name.yielded) (slice_split is_slash c.args.names.now) c.in-Some.name.now c.in-Some-2.child (before ++ before_node d (slice_split is_slash c.args.names.now)) turn
          (λ e t. rw c.in-Some-2.is at (c.in_ok-child.ensures.stands e t)) (λ e x t u. rw c.in-Some-2.is at (c.in_ok-child.ensures.reached e x t u)) (c.loop-name.invariant.leading d before a r));
    }

pub returns-clause-found : goal.returns-clause-found
returns-clause-found c =
    let t = YieldsList-end (YieldsList-from_slice_split {s = c.into_iter-name-iterator.result} _ is_slash c.args.names.now (cc) (cc) (cc) (λ x r q k. search (rules, tests)))
    c.loop-name.yielded _ c.loop-name.yielded_by _ _ c.in-None.is c.next.ensures.steps in
    λ d a. let l = c.loop-name.invariant.leads d a in
    let e = node_at-end (slice_split is_slash c.args.names.now) (length c.loop-name.yielded) (l.0) (omega (arith, t.1)) in
    (l.0, sym (l.2) ∙ e, l.1)

pub returns-in_err-child-clause-reached : goal.returns-in_err-child-clause-reached
returns-in_err-child-clause-reached c = λ d before a r. let l = c.loop-name.invariant.leads d a in absurd (c.in_err-child.ensures.stands (l.0) (l.1))

pub returns-clause-reached : goal.returns-clause-reached
returns-clause-reached c =
    let t = YieldsList-end (YieldsList-from_slice_split {s = c.into_iter-name-iterator.result} _ is_slash c.args.names.now (cc) (cc) (cc) (λ x r q k. search (rules, tests)))
    c.loop-name.yielded _ c.loop-name.yielded_by _ _ c.in-None.is c.next.ensures.steps in
    λ d before a r. leading_end c.args.self.now c.loop-name.node.at (slice_split is_slash c.args.names.now) (length c.loop-name.yielded) _ (omega (arith, t.1)) (c.loop-name.invariant.leading d before a r)
