use Rattle.std.proofs.Common.{[], ap, arith}
use Rattle.std.proofs.lemmas.Result.{err_from_is_err_and}
use Rattle.dt_blob.specs.Token.{nop, end}
use Rattle.dt_blob.specs.Steps.Reading.{token_of}
use Rattle.dt_patch.proofs.ViewLemmas.Descents.{closed_inside, closed_end, closed_nop, closing_nothing, closing_begin, closing_property, closing_last, closing_end, closing_no}
use Rattle.dt_patch.proofs.ViewLemmas.Reaches.{passing, pass_begin, pass_property, pass_end, pass_last}
use Rattle.dt_patch.proofs.ViewLemmas.Throughs.{inside_begin, inside_end, inside_last, inside_node, inside_property}
use Rattle.dt_patch.proofs.view.view.View.node_end.Goals as goal

pub tokens-init : goal.tokens-init
tokens-init c = record { closing = λ ps nodes ts a. (_, a, closed_inside ps nodes ts); passing = λ ps nodes ts before a r. passing c.args.self.now c.args.from ps nodes ts before a r; opened = λ us ts a e. (us, a, e); inside = inside_begin c.args.self.now c.args.from; bounded = omega arith; begins = omega arith }

pub returns-in_err-found-clause-inside : goal.returns-in_err-found-clause-inside
returns-in_err-found-clause-inside c = λ ps nodes ts a. absurd (closing_nothing c.args.self.now c.tokens.at c.tokens.levels ts (c.in_err-found.ensures.0) (c.tokens.invariant.closing ps nodes ts a))

pub tokens-preserved-in-BeginNode : goal.tokens-preserved-in-BeginNode
tokens-preserved-in-BeginNode c =
    let f = c.in_ok-found.found in
    let further = c.in_ok-found.ensures.further in
    let begins = c.in_ok-found.ensures.begins in
    let bounded = c.tokens.invariant.bounded in
    let kept = c.tokens.invariant.begins in
    record {
      closing = λ ps nodes ts a. closing_begin c.args.self.now c.tokens.at f.at f.next c.tokens.levels (token_of f.token) _ ts c.in_ok-found.ensures (ap token_of c.in-BeginNode.is) (c.tokens.invariant.closing ps nodes ts a);
      passing = λ ps nodes ts before a r. pass_begin c.args.self.now c.tokens.at f.at f.next c.tokens.levels (token_of f.token) _ ts _ c.in_ok-found.ensures (ap token_of c.in-BeginNode.is) (c.tokens.invariant.passing ps nodes ts before a r);
      opened = λ us ts a e. closing_begin c.args.self.now c.tokens.at f.at f.next c.tokens.levels (token_of f.token) _ ts c.in_ok-found.ensures (ap token_of c.in-BeginNode.is) (c.tokens.invariant.opened us ts a e);
      inside = inside_node c.args.self.now c.args.from c.tokens.at f.at f.next c.tokens.levels (token_of f.token) _ kept c.in_ok-found.ensures (ap token_of c.in-BeginNode.is) c.tokens.invariant.inside;
      bounded = omega (arith, further, begins, bounded);
      begins = omega (arith, further, begins, kept);
    }

pub tokens-preserved-in-Property : goal.tokens-preserved-in-Property
tokens-preserved-in-Property c =
    let f = c.in_ok-found.found in
    let further = c.in_ok-found.ensures.further in
    let begins = c.in_ok-found.ensures.begins in
    let bounded = c.tokens.invariant.bounded in
    let kept = c.tokens.invariant.begins in
    record {
      closing = λ ps nodes ts a. closing_property c.args.self.now c.tokens.at f.at f.next c.tokens.levels (token_of f.token) _ _ ts c.in_ok-found.ensures (ap token_of c.in-Property.is) (c.tokens.invariant.closing ps nodes ts a);
      passing = λ ps nodes ts before a r. pass_property c.args.self.now c.tokens.at f.at f.next c.tokens.levels (token_of f.token) _ _ ts _ c.in_ok-found.ensures (ap token_of c.in-Property.is) (c.tokens.invariant.passing ps nodes ts before a r);
      opened = λ us ts a e. closing_property c.args.self.now c.tokens.at f.at f.next c.tokens.levels (token_of f.token) _ _ ts c.in_ok-found.ensures (ap token_of c.in-Property.is) (c.tokens.invariant.opened us ts a e);
      inside = inside_property c.args.self.now c.args.from c.tokens.at f.at f.next c.tokens.levels (token_of f.token) _ _ kept c.in_ok-found.ensures (ap token_of c.in-Property.is) c.tokens.invariant.inside;
      bounded = omega (arith, further, begins, bounded);
      begins = omega (arith, further, begins, kept);
    }

pub returns-then-levels-eq0-clause-inside : goal.returns-then-levels-eq0-clause-inside
returns-then-levels-eq0-clause-inside c =
    let f = c.in_ok-found.found in
    λ ps nodes ts a. closing_last c.args.self.now c.tokens.at f.at f.next c.tokens.levels (token_of f.token) ts c.in_ok-found.ensures (ap token_of c.in-EndNode.is) c.if-levels-eq0.true (c.tokens.invariant.closing ps nodes ts a)

pub tokens-preserved : goal.tokens-preserved
tokens-preserved c =
    let f = c.in_ok-found.found in
    let further = c.in_ok-found.ensures.further in
    let begins = c.in_ok-found.ensures.begins in
    let bounded = c.tokens.invariant.bounded in
    let kept = c.tokens.invariant.begins in
    record {
      closing = λ ps nodes ts a. closing_end c.args.self.now c.tokens.at f.at f.next c.tokens.levels (token_of f.token) ts c.in_ok-found.ensures (ap token_of c.in-EndNode.is) c.if-levels-eq0.false (c.tokens.invariant.closing ps nodes ts a) _ (omega arith);
      passing = λ ps nodes ts before a r. pass_end c.args.self.now c.tokens.at f.at f.next c.tokens.levels (token_of f.token) ts _ c.in_ok-found.ensures (ap token_of c.in-EndNode.is) c.if-levels-eq0.false (c.tokens.invariant.passing ps nodes ts before a r) _ (omega arith);
      opened = λ us ts a e. closing_end c.args.self.now c.tokens.at f.at f.next c.tokens.levels (token_of f.token) ts c.in_ok-found.ensures (ap token_of c.in-EndNode.is) c.if-levels-eq0.false (c.tokens.invariant.opened us ts a e) _ (omega arith);
      inside = inside_end c.args.self.now c.args.from c.tokens.at f.at f.next c.tokens.levels (token_of f.token) kept c.in_ok-found.ensures (ap token_of c.in-EndNode.is) c.if-levels-eq0.false c.tokens.invariant.inside _ (omega arith);
      bounded = omega (arith, further, begins, bounded);
      begins = omega (arith, further, begins, kept);
    }

pub returns-in-End-clause-inside : goal.returns-in-End-clause-inside
returns-in-End-clause-inside c =
    let f = c.in_ok-found.found in
    λ ps nodes ts a. absurd (closing_no c.args.self.now c.tokens.at f.at f.next c.tokens.levels (token_of f.token) end ts c.in_ok-found.ensures (ap token_of c.in-End.is) (λ vs e. closed_end c.tokens.levels vs ts e) (c.tokens.invariant.closing ps nodes ts a))

pub returns-in-Nop-clause-inside : goal.returns-in-Nop-clause-inside
returns-in-Nop-clause-inside c =
    let f = c.in_ok-found.found in
    λ ps nodes ts a. absurd (closing_no c.args.self.now c.tokens.at f.at f.next c.tokens.levels (token_of f.token) nop ts c.in_ok-found.ensures (ap token_of c.in-Nop.is) (λ vs e. closed_nop c.tokens.levels vs ts e) (c.tokens.invariant.closing ps nodes ts a))

pub returns-in_err-found-clause-reached : goal.returns-in_err-found-clause-reached
returns-in_err-found-clause-reached c = λ ps nodes ts before a r. absurd (closing_nothing c.args.self.now c.tokens.at c.tokens.levels ts (c.in_err-found.ensures.0) (c.tokens.invariant.closing ps nodes ts a))

pub returns-then-levels-eq0-clause-reached : goal.returns-then-levels-eq0-clause-reached
returns-then-levels-eq0-clause-reached c =
    let f = c.in_ok-found.found in
    λ ps nodes ts before a r. pass_last c.args.self.now c.tokens.at f.at f.next c.tokens.levels (token_of f.token) ts _ c.in_ok-found.ensures (ap token_of c.in-EndNode.is) c.if-levels-eq0.true (c.tokens.invariant.passing ps nodes ts before a r)

pub returns-in-End-clause-reached : goal.returns-in-End-clause-reached
returns-in-End-clause-reached c =
    let f = c.in_ok-found.found in
    λ ps nodes ts before a r. absurd (closing_no c.args.self.now c.tokens.at f.at f.next c.tokens.levels (token_of f.token) end ts c.in_ok-found.ensures (ap token_of c.in-End.is) (λ vs e. closed_end c.tokens.levels vs ts e) (c.tokens.invariant.closing ps nodes ts a))

pub returns-in-Nop-clause-reached : goal.returns-in-Nop-clause-reached
returns-in-Nop-clause-reached c =
    let f = c.in_ok-found.found in
    λ ps nodes ts before a r. absurd (closing_no c.args.self.now c.tokens.at f.at f.next c.tokens.levels (token_of f.token) nop ts c.in_ok-found.ensures (ap token_of c.in-Nop.is) (λ vs e. closed_nop c.tokens.levels vs ts e) (c.tokens.invariant.closing ps nodes ts a))

pub returns-then-levels-eq0-clause-ended : goal.returns-then-levels-eq0-clause-ended
returns-then-levels-eq0-clause-ended c =
    let f = c.in_ok-found.found in
    inside_last c.args.self.now c.args.from c.tokens.at f.at f.next c.tokens.levels (token_of f.token) c.tokens.invariant.begins c.in_ok-found.ensures (ap token_of c.in-EndNode.is) c.if-levels-eq0.true c.tokens.invariant.inside

pub returns-in_err-found-clause-endless : goal.returns-in_err-found-clause-endless
returns-in_err-found-clause-endless c =
    let p = err_from_is_err_and c.from_residual.result c.from_residual.ensures.1 in
    rw (p.1) (λ ts a e. closing_nothing c.args.self.now c.tokens.at c.tokens.levels [] (c.in_err-found.ensures.0) (c.tokens.invariant.opened ts [] a e))

pub returns-in-End-clause-endless : goal.returns-in-End-clause-endless
returns-in-End-clause-endless c =
    let f = c.in_ok-found.found in
    λ ts a e. closing_no c.args.self.now c.tokens.at f.at f.next c.tokens.levels (token_of f.token) end [] c.in_ok-found.ensures (ap token_of c.in-End.is) (λ vs h. closed_end c.tokens.levels vs [] h) (c.tokens.invariant.opened ts [] a e)

pub returns-in-Nop-clause-endless : goal.returns-in-Nop-clause-endless
returns-in-Nop-clause-endless c =
    let f = c.in_ok-found.found in
    λ ts a e. closing_no c.args.self.now c.tokens.at f.at f.next c.tokens.levels (token_of f.token) nop [] c.in_ok-found.ensures (ap token_of c.in-Nop.is) (λ vs h. closed_nop c.tokens.levels vs [] h) (c.tokens.invariant.opened ts [] a e)
