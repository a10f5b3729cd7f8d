use Rattle.std.proofs.Common.{refl, rules, tests, arith, length}
use Rattle.std.specs.List.{slice_split}
use Rattle.std.proofs.lemmas.List.{length_push}
use Rattle.std.proofs.lemmas.Iterator.Consumers.{YieldsList-turn, YieldsList-end}
use Rattle.std.proofs.lemmas.Iterator.Splits.{YieldsList-from_slice_split}
use Rattle.dt_tree.specs.Path.{is_slash}
use Rattle.dt_patch.specs.View.Alike.{node_like}
use Rattle.dt_patch.proofs.ViewLemmas.Alikes.{leads_down, leads_nowhere, leads_over}
use Rattle.dt_patch.proofs.view.view.View.find_like_below.Goals as goal

pub loop-name-init : goal.loop-name-init
loop-name-init c = λ d a. (d, a, refl)

pub returns-in_err-down_like : goal.returns-in_err-down_like
returns-in_err-down_like c = λ d a. let l = c.loop-name.invariant d a in absurd (c.in_err-down_like.ensures (l.0) (l.1))

pub returns-in-None-2 : goal.returns-in-None-2
returns-in-None-2 c =
    let turn = YieldsList-turn (YieldsList-from_slice_split {s = c.into_iter-name-iterator.result} _ is_slash c.args.names.now (cc) (cc) (cc) (λ x r q k. search (rules, tests)))
    c.loop-name.yielded _ c.loop-name.yielded_by _ c.next.new.self c.in-Some.name c.in-Some.is c.next.ensures.steps in
    λ d a. leads_nowhere c.args.self.now c.loop-name.node.at (length c.loop-name.yielded) (slice_split is_slash c.args.names.now) c.in-Some.name.now (node_like d (slice_split is_slash c.args.names.now)) turn (λ e s. rw c.in-None-2.is at (c.in_ok-down_like.ensures e s)) (c.loop-name.invariant d a)

pub loop-name-preserved : goal.loop-name-preserved
loop-name-preserved c =
    let turn = YieldsList-turn (YieldsList-from_slice_split {s = c.into_iter-name-iterator.result} _ is_slash c.args.names.now (cc) (cc) (cc) (λ x r q k. search (rules, tests)))
    c.loop-name.yielded _ c.loop-name.yielded_by _ c.next.new.self c.in-Some.name c.in-Some.is c.next.ensures.steps in
    λ d a. rw length_push (leads_down c.args.self.now c.loop-name.node.at (length c.loop-name.yielded) (slice_split is_slash c.args.names.now) c.in-Some.name.now (node_like d (slice_split is_slash c.args.names.now)) c.in-Some-2.next turn (λ e s. rw c.in-Some-2.is at (c.in_ok-down_like.ensures e s)) (c.loop-name.invariant d a))

pub returns : goal.returns
returns c =
    let t = YieldsList-end (YieldsList-from_slice_split {s = c.into_iter-name-iterator.result} _ is_slash c.args.names.now (cc) (cc) (cc) (λ x r q k. search (rules, tests)))
    c.loop-name.yielded _ c.loop-name.yielded_by _ _ c.in-None.is c.next.ensures.steps in
    λ d a. leads_over c.args.self.now c.loop-name.node (slice_split is_slash c.args.names.now) (length c.loop-name.yielded) _ (omega (arith, t.1)) (c.loop-name.invariant d a)
