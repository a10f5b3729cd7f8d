use Rattle.std.proofs.Common.{◌≡◌, rules, ap, sym, ◌∙◌, arith, tests, length, Some, None}
use Rattle.std.specs.List.{slice_split}
use Rattle.std.specs.Option.{option_copied}
use Rattle.std.proofs.lemmas.List.{length_push}
use Rattle.std.proofs.lemmas.Iterator.Consumers.{YieldsList-turn, YieldsList-end}
use Rattle.std.proofs.lemmas.Iterator.Splits.{YieldsList-from_slice_split}
use Rattle.dt_check.specs.Links.Aliases.{is_slash, below}
use Rattle.dt_check.proofs.LinksLemmas.Descent.{names-none, names-some, names-end}
use Rattle.dt_check.proofs.links.aliases.at_names.Goals as goal

pub returns-in_err-node : goal.returns-in_err-node
returns-in_err-node c =
    let turn = YieldsList-turn (YieldsList-from_slice_split {s = c.into_iter-name-iterator.result} _ is_slash c.args.text.now (cc) (cc) (cc) (λ x r q k. search (rules, tests)))
    c.loop-name.yielded _ c.loop-name.yielded_by _ c.next.new.self c.in-Some.name c.in-Some.is c.next.ensures.steps in
    let none : below c.in-Some.name.now c.loop-name.node.now ≡ None = sym c.below.ensures ∙ ap option_copied c.in_err-node.was in
    let e = names-none (slice_split is_slash c.args.text.now) (length c.loop-name.yielded) c.in-Some.name.now c.loop-name.node.now turn none in
    let gone : option_copied c.from_residual.result ≡ None = ap option_copied c.from_residual.ensures in
    gone ∙ sym e ∙ c.loop-name.invariant

pub loop-name-preserved : goal.loop-name-preserved
loop-name-preserved c =
    let turn = YieldsList-turn (YieldsList-from_slice_split {s = c.into_iter-name-iterator.result} _ is_slash c.args.text.now (cc) (cc) (cc) (λ x r q k. search (rules, tests)))
    c.loop-name.yielded _ c.loop-name.yielded_by _ c.next.new.self c.in-Some.name c.in-Some.is c.next.ensures.steps in
    let some : below c.in-Some.name.now c.loop-name.node.now ≡ Some c.in_ok-node.node.now = sym c.below.ensures ∙ ap option_copied c.in_ok-node.was in
    let e = names-some (slice_split is_slash c.args.text.now) (length c.loop-name.yielded) c.in-Some.name.now c.loop-name.node.now c.in_ok-node.node.now turn some in
    rw length_push (sym e ∙ c.loop-name.invariant)

pub returns : goal.returns
returns c =
    let t = YieldsList-end (YieldsList-from_slice_split {s = c.into_iter-name-iterator.result} _ is_slash c.args.text.now (cc) (cc) (cc) (λ x r q k. search (rules, tests)))
    c.loop-name.yielded _ c.loop-name.yielded_by _ _ c.in-None.is c.next.ensures.steps in
    let e = names-end (slice_split is_slash c.args.text.now) (length c.loop-name.yielded) c.loop-name.node.now (omega (arith, t.1)) in
    sym e ∙ c.loop-name.invariant
