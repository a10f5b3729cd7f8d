use Rattle.std.proofs.Common.{Ok, ap, arith}
use Rattle.dt_blob.specs.Token.{nop, end, end_node}
use Rattle.dt_blob.specs.Steps.Reading.{token_of}
use Rattle.dt_patch.proofs.ViewLemmas.Walks.{counting_begin, counting_end, counting_none, counting_property, counting_there, ended_before, no_end, no_nop, walk_first, walk_nothing}
use Rattle.dt_patch.proofs.view.view.View.levels_at.Goals as goal

pub tokens-init : goal.tokens-init
tokens-init c = record {
  counting = λ before t ts n l k. record { passed = _; left = before; walking = walk_first c.args.self.now c.args.place before t ts l; counts = k };
  bounded = omega arith;
}

pub returns-in_err-found : goal.returns-in_err-found
returns-in_err-found c = λ before t ts n l k.
    let w = c.tokens.invariant.counting before t ts n l k in
    absurd (walk_nothing c.args.self.now c.tokens.at c.args.place before t ts w.passed w.left (c.in_err-found.ensures.0) w.walking)

pub returns-then-found-place : goal.returns-then-found-place
returns-then-found-place c = λ before t ts n l k.
    let f = c.in_ok-found.found in
    ap (λ m. Ok m) (counting_there c.args.self.now c.tokens.at f.at f.next c.args.place c.tokens.levels (token_of f.token) before t ts n c.in_ok-found.ensures c.if-found-place.true (c.tokens.invariant.counting before t ts n l k))

pub tokens-preserved-in-BeginNode : goal.tokens-preserved-in-BeginNode
tokens-preserved-in-BeginNode c =
    let f = c.in_ok-found.found in
    let further = c.in_ok-found.ensures.further in
    let begins = c.in_ok-found.ensures.begins in
    let bounded = c.tokens.invariant.bounded in
    record {
      counting = λ before t ts n l k. counting_begin c.args.self.now c.tokens.at f.at f.next c.args.place c.tokens.levels (token_of f.token) _ before t ts n c.in_ok-found.ensures c.if-found-place.false (ap token_of c.in-BeginNode.is) (c.tokens.invariant.counting before t ts n l k);
      bounded = omega (arith, further, begins, bounded);
    }

pub tokens-preserved-in-Property : goal.tokens-preserved-in-Property
tokens-preserved-in-Property c =
    let f = c.in_ok-found.found in
    let further = c.in_ok-found.ensures.further in
    let begins = c.in_ok-found.ensures.begins in
    let bounded = c.tokens.invariant.bounded in
    record {
      counting = λ before t ts n l k. counting_property c.args.self.now c.tokens.at f.at f.next c.args.place c.tokens.levels (token_of f.token) _ _ before t ts n c.in_ok-found.ensures c.if-found-place.false (ap token_of c.in-Property.is) (c.tokens.invariant.counting before t ts n l k);
      bounded = omega (arith, further, begins, bounded);
    }

pub returns-then-levels-eq0 : goal.returns-then-levels-eq0
returns-then-levels-eq0 c = λ before t ts n l k.
    let f = c.in_ok-found.found in
    absurd (counting_none c.args.self.now c.tokens.at f.at f.next c.args.place c.tokens.levels (token_of f.token) end_node before t ts n c.in_ok-found.ensures c.if-found-place.false (ap token_of c.in-EndNode.is) (ended_before c.tokens.levels c.if-levels-eq0.true)
    (c.tokens.invariant.counting before t ts n l k))

pub tokens-preserved : goal.tokens-preserved
tokens-preserved c =
    let f = c.in_ok-found.found in
    let further = c.in_ok-found.ensures.further in
    let begins = c.in_ok-found.ensures.begins in
    let bounded = c.tokens.invariant.bounded in
    record {
      counting = λ before t ts n l k. counting_end c.args.self.now c.tokens.at f.at f.next c.args.place c.tokens.levels _ (token_of f.token) before t ts n c.in_ok-found.ensures c.if-found-place.false (ap token_of c.in-EndNode.is) (omega arith) (c.tokens.invariant.counting before t ts n l k);
      bounded = omega (arith, further, begins, bounded);
    }

pub returns-in-End : goal.returns-in-End
returns-in-End c = λ before t ts n l k.
    let f = c.in_ok-found.found in
    absurd (counting_none c.args.self.now c.tokens.at f.at f.next c.args.place c.tokens.levels (token_of f.token) end before t ts n c.in_ok-found.ensures c.if-found-place.false (ap token_of c.in-End.is) (no_end c.tokens.levels) (c.tokens.invariant.counting before t ts n l k))

pub returns-in-Nop : goal.returns-in-Nop
returns-in-Nop c = λ before t ts n l k.
    let f = c.in_ok-found.found in
    absurd (counting_none c.args.self.now c.tokens.at f.at f.next c.args.place c.tokens.levels (token_of f.token) nop before t ts n c.in_ok-found.ensures c.if-found-place.false (ap token_of c.in-Nop.is) (no_nop c.tokens.levels) (c.tokens.invariant.counting before t ts n l k))
