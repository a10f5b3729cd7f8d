use Rattle.std.proofs.Common.{refl, ap, arith}
use Rattle.dt_blob.specs.Steps.Reading.{token_of}
use Rattle.dt_patch.specs.View.Order.{nodes_left}
use Rattle.dt_patch.proofs.ViewLemmas.Orders.{left_begin, left_property, left_end, left_over, left_nop, left_nothing}
use Rattle.dt_patch.proofs.view.view.View.node_behind.Goals as goal

pub tokens-init : goal.tokens-init
tokens-init c = record { left = λ ps fs a. (ps, fs, a, refl); begins = omega arith }

pub returns-in_err-found-clause-left : goal.returns-in_err-found-clause-left
returns-in_err-found-clause-left c = λ ps fs a. absurd (left_nothing c.args.self.now c.tokens.at (nodes_left fs) (c.in_err-found.ensures.0) (c.tokens.invariant.left ps fs a))

pub returns-in-BeginNode-clause-left : goal.returns-in-BeginNode-clause-left
returns-in-BeginNode-clause-left c =
    let f = c.in_ok-found.found in
    λ ps fs a. left_begin c.args.self.now c.tokens.at (record { at = f.at }) f.next (token_of f.token) _ (nodes_left fs) c.in_ok-found.ensures (ap token_of c.in-BeginNode.is) (c.tokens.invariant.left ps fs a)

pub returns-in-BeginNode-clause-further : goal.returns-in-BeginNode-clause-further
returns-in-BeginNode-clause-further c =
    let kept = c.tokens.invariant.begins in
    let begins = c.in_ok-found.ensures.begins in
    let further = c.in_ok-found.ensures.further in
    let inside = c.in_ok-found.ensures.inside in
    (omega (arith, kept, begins), omega (arith, further, inside))

pub tokens-preserved-in-Property : goal.tokens-preserved-in-Property
tokens-preserved-in-Property c =
    let f = c.in_ok-found.found in
    let kept = c.tokens.invariant.begins in
    let begins = c.in_ok-found.ensures.begins in
    let further = c.in_ok-found.ensures.further in
    record {
      left = λ ps fs a. left_property c.args.self.now c.tokens.at f.at f.next (token_of f.token) _ _ (nodes_left fs) c.in_ok-found.ensures (ap token_of c.in-Property.is) (c.tokens.invariant.left ps fs a);
      begins = omega (arith, kept, begins, further);
    }

pub tokens-preserved : goal.tokens-preserved
tokens-preserved c =
    let f = c.in_ok-found.found in
    let kept = c.tokens.invariant.begins in
    let begins = c.in_ok-found.ensures.begins in
    let further = c.in_ok-found.ensures.further in
    record {
      left = λ ps fs a. left_end c.args.self.now c.tokens.at f.at f.next (token_of f.token) (nodes_left fs) c.in_ok-found.ensures (ap token_of c.in-EndNode.is) (c.tokens.invariant.left ps fs a);
      begins = omega (arith, kept, begins, further);
    }

pub returns-in-End-clause-left : goal.returns-in-End-clause-left
returns-in-End-clause-left c =
    let f = c.in_ok-found.found in
    λ ps fs a. left_over c.args.self.now c.tokens.at f.at f.next (token_of f.token) (nodes_left fs) c.in_ok-found.ensures (ap token_of c.in-End.is) (c.tokens.invariant.left ps fs a)

pub returns-in-Nop-clause-left : goal.returns-in-Nop-clause-left
returns-in-Nop-clause-left c =
    let f = c.in_ok-found.found in
    λ ps fs a. absurd (left_nop c.args.self.now c.tokens.at f.at f.next (token_of f.token) (nodes_left fs) c.in_ok-found.ensures (ap token_of c.in-Nop.is) (c.tokens.invariant.left ps fs a))
