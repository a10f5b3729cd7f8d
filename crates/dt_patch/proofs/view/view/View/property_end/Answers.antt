use Rattle.std.proofs.Common.{ap, refl}
use Rattle.std.proofs.lemmas.Result.{err_from_is_err_and}
use Rattle.dt_blob.specs.Token.{end_node, nop, end}
use Rattle.dt_blob.specs.Steps.Reading.{token_of}
use Rattle.dt_patch.proofs.ViewLemmas.Throughs.{no_property, nothing_as_property}
use Rattle.dt_patch.proofs.view.view.View.property_end.Goals as goal

pub returns-in_err-token : goal.returns-in_err-token
returns-in_err-token c =
    let p = err_from_is_err_and c.from_residual.result c.from_residual.ensures.1 in
    rw (p.1) (nothing_as_property c.args.self.now c.args.at c.in_err-token.ensures.0)

pub returns-in-BeginNode : goal.returns-in-BeginNode
returns-in-BeginNode c = no_property c.args.self.now c.args.at c.in_ok-token.next (token_of c.in_ok-token.token) _ c.in_ok-token.ensures.spelled (ap token_of c.in-BeginNode.is) refl

pub returns-in-EndNode : goal.returns-in-EndNode
returns-in-EndNode c = no_property c.args.self.now c.args.at c.in_ok-token.next (token_of c.in_ok-token.token) end_node c.in_ok-token.ensures.spelled (ap token_of c.in-EndNode.is) refl

pub returns-in-Nop : goal.returns-in-Nop
returns-in-Nop c = no_property c.args.self.now c.args.at c.in_ok-token.next (token_of c.in_ok-token.token) nop c.in_ok-token.ensures.spelled (ap token_of c.in-Nop.is) refl

pub returns-in-End : goal.returns-in-End
returns-in-End c = no_property c.args.self.now c.args.at c.in_ok-token.next (token_of c.in_ok-token.token) end c.in_ok-token.ensures.spelled (ap token_of c.in-End.is) refl
