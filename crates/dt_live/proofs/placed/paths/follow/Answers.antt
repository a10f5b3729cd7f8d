use Rattle.std.proofs.Common.{◌≡◌, rules, sym, ◌∙◌, arith, tests, length, Some, None}
use Rattle.std.specs.List.{slice_split}
use Rattle.std.proofs.lemmas.Grind.{common_steps}
use Rattle.std.proofs.lemmas.List.{length_push}
use Rattle.std.proofs.lemmas.Iterator.Consumers.{YieldsList-turn, YieldsList-end}
use Rattle.std.proofs.lemmas.Iterator.Splits.{YieldsList-from_slice_split}
use Rattle.dt_tree.specs.Path.{is_slash}
use Rattle.dt_live.specs.Placed.References.{child_in}
use Rattle.dt_live.proofs.PathsDown.{behind-none, behind-some, behind-end}
use Rattle.dt_live.proofs.placed.paths.follow.Goals as goal

pub returns-in_err-node : goal.returns-in_err-node
returns-in_err-node c =
    let turn = YieldsList-turn (YieldsList-from_slice_split {s = c.into_iter-name-iterator.result} _ is_slash c.args.names.now (cc) (cc) (cc) (λ x r q k. search (rules, tests)))
    c.loop-name.yielded _ c.loop-name.yielded_by _ c.next.new.self c.in-Some.name c.in-Some.is c.next.ensures.steps in
    let none : child_in c.args.nodes.now c.loop-name.node c.in-Some.name.now ≡ None = grind (arith, common_steps) in
    let e = behind-none (child_in c.args.nodes.now) (slice_split is_slash c.args.names.now) (length c.loop-name.yielded) c.in-Some.name.now c.loop-name.node turn none in
    let gone : c.from_residual.result ≡ None = grind (arith, common_steps) in
    gone ∙ sym e ∙ c.loop-name.invariant

pub loop-name-preserved : goal.loop-name-preserved
loop-name-preserved c =
    let turn = YieldsList-turn (YieldsList-from_slice_split {s = c.into_iter-name-iterator.result} _ is_slash c.args.names.now (cc) (cc) (cc) (λ x r q k. search (rules, tests)))
    c.loop-name.yielded _ c.loop-name.yielded_by _ c.next.new.self c.in-Some.name c.in-Some.is c.next.ensures.steps in
    let some : child_in c.args.nodes.now c.loop-name.node c.in-Some.name.now ≡ Some c.in_ok-node.node = grind (arith, common_steps) in
    let e = behind-some (child_in c.args.nodes.now) (slice_split is_slash c.args.names.now) (length c.loop-name.yielded) c.in-Some.name.now c.loop-name.node c.in_ok-node.node turn some in
    rw length_push (sym e ∙ c.loop-name.invariant)

pub returns : goal.returns
returns c =
    let t = YieldsList-end (YieldsList-from_slice_split {s = c.into_iter-name-iterator.result} _ is_slash c.args.names.now (cc) (cc) (cc) (λ x r q k. search (rules, tests)))
    c.loop-name.yielded _ c.loop-name.yielded_by _ _ c.in-None.is c.next.ensures.steps in
    let e = behind-end (child_in c.args.nodes.now) (slice_split is_slash c.args.names.now) (length c.loop-name.yielded) c.loop-name.node (omega (arith, t.1)) in
    sym e ∙ c.loop-name.invariant
