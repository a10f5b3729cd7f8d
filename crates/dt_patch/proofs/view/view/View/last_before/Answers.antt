use Rattle.std.proofs.Common.{ap, arith}
use Rattle.dt_blob.specs.Token.{nop, end, end_node}
use Rattle.dt_blob.specs.Steps.Reading.{token_of}
use Rattle.dt_patch.proofs.ViewLemmas.Walks.{ended_before, no_end, no_nop, opening_begin, opening_end, opening_first, opening_none, opening_property, opening_there, walk_nothing}
use Rattle.dt_patch.proofs.view.view.View.last_before.Goals as goal

pub tokens-init : goal.tokens-init
tokens-init c = record {
  opening = λ before within t ts n l k o. opening_first c.args.self.now c.args.place c.args.depth before within t ts n l k o;
  bounded = omega arith;
}

pub returns-in_err-found : goal.returns-in_err-found
returns-in_err-found c = λ before within t ts n l k o.
    let w = c.tokens.invariant.opening before within t ts n l k o in
    absurd (walk_nothing c.args.self.now c.tokens.at c.args.place _ t ts w.passed w.left (c.in_err-found.ensures.0) w.walking)

pub returns-then-found-place : goal.returns-then-found-place
returns-then-found-place c = λ before within t ts n l k o.
    let f = c.in_ok-found.found in
    opening_there c.args.self.now c.tokens.at f.at f.next c.tokens.levels c.tokens.last c.args.depth c.args.place (token_of f.token) before within t ts n c.in_ok-found.ensures c.if-found-place.true (c.tokens.invariant.opening before within t ts n l k o)

pub tokens-preserved-in-BeginNode : goal.tokens-preserved-in-BeginNode
tokens-preserved-in-BeginNode c =
    let f = c.in_ok-found.found in
    let further = c.in_ok-found.ensures.further in
    let begins = c.in_ok-found.ensures.begins in
    let bounded = c.tokens.invariant.bounded in
    record {
      opening = λ before within t ts n l k o. opening_begin c.args.self.now c.tokens.at f.at f.next c.tokens.levels c.tokens.last c.args.depth c.args.place (token_of f.token) _ before within t ts n _ c.in_ok-found.ensures c.if-found-place.false (ap token_of c.in-BeginNode.is) c.last_at-last.ensures (c.tokens.invariant.opening before within t ts n l k o);
      bounded = omega (arith, further, begins, bounded);
    }

pub tokens-preserved-in-Property : goal.tokens-preserved-in-Property
tokens-preserved-in-Property c =
    let f = c.in_ok-found.found in
    let further = c.in_ok-found.ensures.further in
    let begins = c.in_ok-found.ensures.begins in
    let bounded = c.tokens.invariant.bounded in
    record {
      opening = λ before within t ts n l k o. opening_property c.args.self.now c.tokens.at f.at f.next c.tokens.levels c.tokens.last c.args.depth c.args.place (token_of f.token) _ _ before within t ts n c.in_ok-found.ensures c.if-found-place.false (ap token_of c.in-Property.is) (c.tokens.invariant.opening before within t ts n l k o);
      bounded = omega (arith, further, begins, bounded);
    }

pub returns-then-levels-eq0 : goal.returns-then-levels-eq0
returns-then-levels-eq0 c = λ before within t ts n l k o.
    let f = c.in_ok-found.found in
    absurd (opening_none c.args.self.now c.tokens.at f.at f.next c.tokens.levels c.tokens.last c.args.depth c.args.place (token_of f.token) end_node before within t ts n c.in_ok-found.ensures c.if-found-place.false (ap token_of c.in-EndNode.is) (ended_before c.tokens.levels c.if-levels-eq0.true)
    (c.tokens.invariant.opening before within t ts n l k o))

pub tokens-preserved : goal.tokens-preserved
tokens-preserved c =
    let f = c.in_ok-found.found in
    let further = c.in_ok-found.ensures.further in
    let begins = c.in_ok-found.ensures.begins in
    let bounded = c.tokens.invariant.bounded in
    record {
      opening = λ before within t ts n l k o. opening_end c.args.self.now c.tokens.at f.at f.next c.tokens.levels _ c.tokens.last c.args.depth c.args.place (token_of f.token) before within t ts n c.in_ok-found.ensures c.if-found-place.false (ap token_of c.in-EndNode.is) (omega arith) (c.tokens.invariant.opening before within t ts n l k o);
      bounded = omega (arith, further, begins, bounded);
    }

pub returns-in-End : goal.returns-in-End
returns-in-End c = λ before within t ts n l k o.
    let f = c.in_ok-found.found in
    absurd (opening_none c.args.self.now c.tokens.at f.at f.next c.tokens.levels c.tokens.last c.args.depth c.args.place (token_of f.token) end before within t ts n c.in_ok-found.ensures c.if-found-place.false (ap token_of c.in-End.is) (no_end c.tokens.levels) (c.tokens.invariant.opening before within t ts n l k o))

pub returns-in-Nop : goal.returns-in-Nop
returns-in-Nop c = λ before within t ts n l k o.
    let f = c.in_ok-found.found in
    absurd (opening_none c.args.self.now c.tokens.at f.at f.next c.tokens.levels c.tokens.last c.args.depth c.args.place (token_of f.token) nop before within t ts n c.in_ok-found.ensures c.if-found-place.false (ap token_of c.in-Nop.is) (no_nop c.tokens.levels) (c.tokens.invariant.opening before within t ts n l k o))
