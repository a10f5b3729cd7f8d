use Rattle.std.proofs.Common.{refl, ap, arith}
use Rattle.dt_blob.specs.Steps.Reading.{token_of}
use Rattle.dt_patch.proofs.ViewLemmas.Steps.{pass_begin, pass_end, pass_nop, pass_nothing, pass_out, pass_over, pass_property}
use Rattle.dt_patch.proofs.view.view.View.step_from.Goals as goal

pub tokens-init : goal.tokens-init
tokens-init c = record { passing = λ ps fs a. record { ps = ps; gs = fs; ahead = a; is = refl; counts = refl }; less = omega arith }

pub returns-in_err-found : goal.returns-in_err-found
returns-in_err-found c = λ ps fs a. absurd (pass_nothing c.args.self.now c.tokens.at c.tokens.left c.args.depth fs (c.in_err-found.ensures.0) (c.tokens.invariant.passing ps fs a))

pub returns-in-BeginNode : goal.returns-in-BeginNode
returns-in-BeginNode c =
    let f = c.in_ok-found.found in
    λ ps fs a. pass_begin c.args.self.now c.tokens.at (record { at = f.at }) f.next c.tokens.left c.args.depth (token_of f.token) _ fs c.in_ok-found.ensures (ap token_of c.in-BeginNode.is) (c.tokens.invariant.passing ps fs a)

pub tokens-preserved-in-Property : goal.tokens-preserved-in-Property
tokens-preserved-in-Property c =
    let f = c.in_ok-found.found in
    record {
      passing = λ ps fs a. pass_property c.args.self.now c.tokens.at f.at f.next c.tokens.left c.args.depth (token_of f.token) _ _ fs c.in_ok-found.ensures (ap token_of c.in-Property.is) (c.tokens.invariant.passing ps fs a);
      less = c.tokens.invariant.less;
    }

pub returns-in-End : goal.returns-in-End
returns-in-End c =
    let f = c.in_ok-found.found in
    λ ps fs a. pass_over c.args.self.now c.tokens.at f.at f.next c.tokens.left c.args.depth (token_of f.token) fs c.in_ok-found.ensures (ap token_of c.in-End.is) (c.tokens.invariant.passing ps fs a)

pub returns-in-Nop : goal.returns-in-Nop
returns-in-Nop c =
    let f = c.in_ok-found.found in
    λ ps fs a. absurd (pass_nop c.args.self.now c.tokens.at f.at f.next c.tokens.left c.args.depth (token_of f.token) fs c.in_ok-found.ensures (ap token_of c.in-Nop.is) (c.tokens.invariant.passing ps fs a))

pub returns-then-left-eq0 : goal.returns-then-left-eq0
returns-then-left-eq0 c =
    let f = c.in_ok-found.found in
    λ ps fs a. pass_out c.args.self.now c.tokens.at f.at f.next c.tokens.left c.args.depth (token_of f.token) fs c.in_ok-found.ensures (ap token_of c.in-EndNode.is) c.if-left-eq0.true (c.tokens.invariant.passing ps fs a)

pub tokens-preserved : goal.tokens-preserved
tokens-preserved c =
    let f = c.in_ok-found.found in
    let kept = c.tokens.invariant.less in
    record {
      passing = λ ps fs a. pass_end c.args.self.now c.tokens.at f.at f.next c.tokens.left _ c.args.depth (token_of f.token) fs c.in_ok-found.ensures (ap token_of c.in-EndNode.is) (omega arith) (c.tokens.invariant.passing ps fs a);
      less = omega (arith, kept);
    }
